pub mod Formats
pub mod NumberFormats
pub mod NameFormats
pub mod TermFormats
pub mod EntryFormats
pub mod Room
pub mod Words
pub mod TextOrder
