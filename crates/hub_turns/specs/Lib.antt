pub mod Backed
pub mod Groups
pub mod Interleaved
pub mod Turned
