pub mod AssignParts
pub mod MergeParts
