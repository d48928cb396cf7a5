pub mod Journals
pub mod Later
pub mod Endings
pub mod Turning
pub mod Hiring
pub mod Events
pub mod Working
pub mod ReadEntries
