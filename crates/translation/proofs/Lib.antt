pub mod Chains
pub mod SwapsTogether
pub mod Instances
pub mod NeighbourCounts
pub mod ProblemClauses
pub mod SwapChains
pub mod HighestVars
