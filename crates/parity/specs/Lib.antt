pub mod Xor
pub mod Refusals
pub mod Laws
pub mod Text
