pub mod Passes
pub mod Between
pub mod Orderly
