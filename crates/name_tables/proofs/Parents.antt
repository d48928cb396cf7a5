pub mod Numbers
pub mod Ancestors
pub mod LoopAdditions
