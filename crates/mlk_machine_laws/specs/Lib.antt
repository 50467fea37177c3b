pub mod Order
pub mod Moments
pub mod Scopes
pub mod Tidy
pub mod Sharing
pub mod Outside
pub mod Laws
pub mod WellFormed
