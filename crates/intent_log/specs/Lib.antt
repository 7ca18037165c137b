pub mod Meaning
pub mod Refusals
pub mod Checks
pub mod Calls
pub mod Devices
