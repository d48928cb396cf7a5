pub mod Atoms
pub mod Ascending
pub mod Congruence
pub mod Steps
pub mod Walks
