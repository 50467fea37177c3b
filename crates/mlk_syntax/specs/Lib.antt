pub mod ExprTrees
pub mod Trees
pub mod Views
pub mod Distinct
pub mod Several
