pub mod Fewer
pub mod Passing
