pub mod Theorem
mod Endings
pub mod Replays
pub mod Examples
mod Tested
mod Hospital
