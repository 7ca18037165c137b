pub mod Form
pub mod Flag
pub mod Own
pub mod Puts
pub mod Blocks
pub mod Text
