pub mod Sound
pub mod Next
pub mod Tickets
pub mod Blocks
pub mod Closing
