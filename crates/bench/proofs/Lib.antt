pub mod Powered
pub mod Recording
