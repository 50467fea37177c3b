pub mod Inclusion
pub mod Texts
pub mod Limits
pub mod Reading
pub mod Checks
pub mod TermOrder
