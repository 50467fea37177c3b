pub mod ExprParts
pub mod TreeParts
pub mod PartCounts
pub mod VariableParts
pub mod Additions
