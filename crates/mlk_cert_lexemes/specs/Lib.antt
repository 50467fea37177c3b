pub mod Lists
pub mod Texts
pub mod Kinds
pub mod Reading
