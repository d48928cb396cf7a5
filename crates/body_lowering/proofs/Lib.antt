pub mod Loops
pub mod Entered
pub mod Domains
pub mod LoweredCalls
pub mod Chains
pub mod Kernel
pub mod Nodes
pub mod FormulaNodes
