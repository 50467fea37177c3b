pub mod RoutineGrammar
pub mod Leading
pub mod Lines
pub mod Refusals
pub mod Theorem
