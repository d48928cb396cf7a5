pub mod Pushes
pub mod Faulting
