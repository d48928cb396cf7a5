pub mod Steps
pub mod Outlines
pub mod Counts
