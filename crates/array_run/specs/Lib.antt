pub mod TokenCounts
pub mod Calls
pub mod Trace
