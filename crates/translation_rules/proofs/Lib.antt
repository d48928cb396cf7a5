pub mod Tests
mod FreeLemmas
pub mod Joining
mod LocalClauseLemmas
pub mod Locals
