pub mod Formed
mod Histories
mod NextSlots
mod NotDone
pub mod PassedOn
mod Runs
mod Slots
pub mod Unread
