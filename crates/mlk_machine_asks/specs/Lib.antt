pub mod Asking
pub mod Kinds
