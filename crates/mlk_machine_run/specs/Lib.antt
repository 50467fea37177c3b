pub mod Frames
pub mod Jobs
pub mod Silent
