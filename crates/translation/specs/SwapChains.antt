pub mod Comparison
pub mod Chain
