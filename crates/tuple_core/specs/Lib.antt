pub mod Order
pub mod Swap
pub mod Operators
pub mod Gains
pub mod Rows
pub mod Equality
