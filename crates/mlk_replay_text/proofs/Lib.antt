pub mod ExplainedLemmas
