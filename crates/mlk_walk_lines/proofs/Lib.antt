pub mod Opened
pub mod FewStates
pub mod Idle
mod Turns
pub mod Parts
