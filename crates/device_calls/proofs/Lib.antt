pub mod Append
pub mod Single
pub mod Left
pub mod Properties
pub mod Refusals
pub mod Proved
