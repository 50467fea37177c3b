pub mod Checks
pub mod NeverShut
