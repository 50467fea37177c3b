pub mod Examples
pub mod CaseFormats
pub mod Among
pub mod Room
pub mod EqualCases
