pub mod OwnEntries
pub mod Staying
pub mod BackedRuns
pub mod Grouping
pub mod Going
pub mod Onward
