pub mod Variants
pub mod TreeLists
pub mod Distinct
