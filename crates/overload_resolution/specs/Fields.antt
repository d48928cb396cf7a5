pub mod Alike
pub mod Entries
pub mod Found
pub mod Seen
