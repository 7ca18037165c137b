pub mod Lists
pub mod Effects
pub mod Laws
