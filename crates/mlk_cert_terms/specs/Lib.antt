pub mod Numbered
pub mod Laws
pub mod Keys
pub mod Examples
