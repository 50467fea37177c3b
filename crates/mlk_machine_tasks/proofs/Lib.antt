pub mod PartLemmas
pub mod CommandParts
pub mod ActionParts
pub mod LineParts
