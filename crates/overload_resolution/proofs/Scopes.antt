pub mod Zipped
pub mod Standing
pub mod Insides
