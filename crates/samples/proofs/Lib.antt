pub mod Links
pub mod Exhaustive
