pub mod ListLemmas
pub mod NameLemmas
pub mod TermLemmas
pub mod OverlapLemmas
pub mod ActualLemmas
pub mod Examples
