pub mod Files
pub mod Dialects
pub mod Named
