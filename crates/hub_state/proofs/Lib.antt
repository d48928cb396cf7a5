pub mod ThreadCrossing
mod Journals
mod Behind
pub mod GrowingJournals
mod Sharing
pub mod Appending
pub mod Journal
