pub mod Touches
pub mod Quiet
pub mod Spellings
pub mod Grammar
pub mod Reading
pub mod Theorem
