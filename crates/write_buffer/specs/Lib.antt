pub mod Replay
pub mod Passing
pub mod Buffer
pub mod Replays
