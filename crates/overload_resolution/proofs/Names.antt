pub mod Rests
pub mod Parameters
