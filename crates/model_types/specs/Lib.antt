pub mod Bounding
pub mod Sorts
pub mod Typing
pub mod Models
pub mod Rows
pub mod Parts
pub mod Bounds
