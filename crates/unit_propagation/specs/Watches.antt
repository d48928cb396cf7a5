pub mod Linked
pub mod WatchState
pub mod Kept
pub mod Steps
