pub mod Sorted
pub mod Cells
