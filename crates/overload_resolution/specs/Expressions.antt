pub mod Types
pub mod Chains
