pub mod Making
pub mod Changing
pub mod Blanking
pub mod Powering
