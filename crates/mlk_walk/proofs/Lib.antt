pub mod Ascending
pub mod CodeOrder
pub mod Examples
pub mod Ordered
mod PartSizes
mod PartWalks
pub mod Syncs
