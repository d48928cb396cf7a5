pub mod Sizes
pub mod Tables
pub mod Rows
