-- Definitions that the contracts of the remote fuse cite.
pub mod Remote
