pub mod Closing
pub mod Cuts
pub mod Keeping
pub mod Loops
pub mod MarkLists
pub mod Slots
pub mod Steps
