pub mod OpenedVariables
pub mod Steps
pub mod LocalChanges
pub mod Worked
pub mod OpenedLocks
pub mod Columns
pub mod Alike
pub mod Claiming
pub mod LockExamples
mod NameCounts
pub mod Opened
pub mod Ways
pub mod VariableExamples
pub mod CallExamples
pub mod Written
mod Targets
