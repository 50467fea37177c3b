pub mod Paths
pub mod Texts
pub mod Dialects
pub mod Found
