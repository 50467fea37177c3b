pub mod CallSteps
pub mod Examples
pub mod Copies
pub mod BareExits
pub mod Ordered
