pub mod Contents
pub mod Limits
pub mod Form
pub mod Reading
pub mod Spelling
pub mod Examples
pub mod Text
