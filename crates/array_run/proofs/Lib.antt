pub mod Buffers
pub mod Calls
pub mod Rooms
pub mod Emptiness
pub mod Trace
