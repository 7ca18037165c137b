pub mod Columns
pub mod Others
