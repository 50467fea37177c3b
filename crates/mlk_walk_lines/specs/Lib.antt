pub mod Commands
pub mod Counting
pub mod Loops
pub mod Endings
pub mod Lines
pub mod Parts
