pub mod Contents
pub mod Stripes
pub mod Slots
pub mod Searches
pub mod Sharing
pub mod Meaning
