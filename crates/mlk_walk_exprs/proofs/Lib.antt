pub mod Opened
pub mod Waiting
pub mod Gathering
pub mod InPlace
pub mod StateTests
pub mod Examples
pub mod Passing
pub mod Distinct
