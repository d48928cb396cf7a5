pub mod Freeing
pub mod Limits
pub mod Pooled
