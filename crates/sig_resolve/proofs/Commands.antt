pub mod TestsOfParts
pub mod Runs
pub mod Commands
