pub mod Ran
pub mod Printing
