pub mod Resting
pub mod ClauseForm
pub mod Encoding
