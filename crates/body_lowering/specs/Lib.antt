pub mod Locals
pub mod Steps
pub mod Kernel
pub mod Nodes
pub mod Copies
pub mod Lowers
