pub mod Hints
pub mod Sizes
pub mod Vars
