pub mod Store
pub mod Tuples
pub mod Rounds
pub mod Sessions
