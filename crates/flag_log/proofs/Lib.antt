pub mod Powering
pub mod Putting
