pub mod Patterns
pub mod Coverage
pub mod Fronts
pub mod Computed
pub mod Ranks
pub mod Sound
pub mod Groups
pub mod Laws
