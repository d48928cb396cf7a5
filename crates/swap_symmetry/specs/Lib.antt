pub mod Order
pub mod Swaps
pub mod Images
pub mod Due
