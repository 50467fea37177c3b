pub mod Lists
pub mod Transfers
pub mod Counts
pub mod Walks
pub mod Rounds
pub mod Passing
