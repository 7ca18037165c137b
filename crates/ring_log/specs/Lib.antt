pub mod Slots
pub mod Highest
pub mod Kept
pub mod Ring
pub mod Own
pub mod Puts
pub mod HighestLemmas
pub mod Places
