pub mod ReadTrees
pub mod TimedArguments
