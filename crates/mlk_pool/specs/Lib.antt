pub mod Given
pub mod Shown
pub mod Histories
pub mod Boards
pub mod Refusals
pub mod Errors
pub mod Headline
pub mod Stages
