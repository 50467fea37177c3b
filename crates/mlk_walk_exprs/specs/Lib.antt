pub mod Walks
pub mod Gathered
pub mod Spots
pub mod References
pub mod Expressions
