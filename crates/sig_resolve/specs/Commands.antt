pub mod Arrows
pub mod Predicates
