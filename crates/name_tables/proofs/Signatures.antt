pub mod Lookups
pub mod Gaining
pub mod BoundOperands
pub mod SmallerBounds
