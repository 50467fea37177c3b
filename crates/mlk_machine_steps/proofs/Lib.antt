pub mod StepLemmas
pub mod ClaimLemmas
pub mod ScopeLemmas
pub mod LineSteps
pub mod AssignSteps
pub mod KillLemmas
pub mod TruthLemmas
