-- Definitions that the contracts of the fuse with a series of settings cite.
pub mod Series
