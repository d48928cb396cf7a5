pub mod OrderState
pub mod Heap
pub mod Kept
