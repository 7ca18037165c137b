pub mod Formatting
pub mod Fetching
pub mod Changing
pub mod Falling
pub mod Emptying
pub mod Turns
