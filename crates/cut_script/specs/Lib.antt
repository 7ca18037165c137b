pub mod Script
pub mod Account
