pub mod Changes
pub mod Claims
pub mod Ranks
pub mod Calls
pub mod Order
