pub mod Replay
pub mod Claims
