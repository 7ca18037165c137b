pub mod Stripe
pub mod Work
pub mod Answers
pub mod Outcomes
pub mod Promises
