pub mod Lexemes
pub mod Words
