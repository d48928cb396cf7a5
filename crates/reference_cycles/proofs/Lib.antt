pub mod Cycles
pub mod Recursion
