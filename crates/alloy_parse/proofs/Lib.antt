pub mod Depth
pub mod Falls
pub mod Operands
pub mod Sizes
pub mod Nodes
