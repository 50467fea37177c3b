pub mod Numbers
pub mod Canonical
pub mod Folding
pub mod NumberLaws
pub mod Outcome
pub mod Operators
