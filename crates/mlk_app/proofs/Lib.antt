pub mod Saying
pub mod Suggesting
mod NeverShut
pub mod Stubbing
pub mod Finding
