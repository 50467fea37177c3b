pub mod Forms
pub mod Clean
pub mod Ours
pub mod Commands
pub mod Entries
pub mod Theorem
pub mod Laws
