pub mod Row
pub mod Memory
pub mod Rooms
