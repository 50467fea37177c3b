pub mod Laws
pub mod Timeouts
