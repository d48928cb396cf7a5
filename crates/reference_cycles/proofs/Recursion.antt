pub mod Adding
pub mod CallsInParts
pub mod Cycles
pub mod Smaller
