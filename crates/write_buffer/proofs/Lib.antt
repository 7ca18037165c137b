pub mod Newest
pub mod Passed
pub mod Orders
