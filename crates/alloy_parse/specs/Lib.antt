pub mod Behind
pub mod Bounds
pub mod Faults
pub mod Nodes
