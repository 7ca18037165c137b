pub mod Outcomes
pub mod Draining
