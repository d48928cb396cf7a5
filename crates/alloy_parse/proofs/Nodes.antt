pub mod Depth
pub mod NextTokens
