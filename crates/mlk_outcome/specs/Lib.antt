pub mod Refusals
pub mod Making
pub mod Replaying
pub mod Conversion
