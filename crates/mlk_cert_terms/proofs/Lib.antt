pub mod Placing
pub mod OneOrder
pub mod TermTexts
pub mod Tables
pub mod Laws
