pub mod Lists
pub mod LockNames
pub mod Symbols
pub mod Terms
pub mod References
pub mod Actuals
pub mod Laws
