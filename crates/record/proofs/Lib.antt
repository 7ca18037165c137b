pub mod Writing
pub mod Stripes
pub mod Steps
pub mod RoundTrip
