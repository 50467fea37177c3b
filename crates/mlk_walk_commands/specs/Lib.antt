pub mod Variables
pub mod Order
pub mod Locks
pub mod Holding
pub mod News
pub mod Arguments
