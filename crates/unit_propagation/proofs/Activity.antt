pub mod Ranks
pub mod Places
pub mod Steps
pub mod States
