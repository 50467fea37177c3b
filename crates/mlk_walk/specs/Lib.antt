pub mod Faults
pub mod Verdicts
pub mod Reports
pub mod Laws
pub mod Parts
