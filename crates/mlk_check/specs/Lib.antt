pub mod Theorem
pub mod Replays
