pub mod Types
pub mod Orderings
