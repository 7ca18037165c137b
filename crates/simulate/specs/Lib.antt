-- Definitions that the contracts of the simulator cite.
pub mod Ages
pub mod Lines
pub mod Counts
