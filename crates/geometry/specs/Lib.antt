pub mod Counts
pub mod Layouts
pub mod Places
pub mod Rounds
