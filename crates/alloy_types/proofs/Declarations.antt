pub mod Binds
pub mod Settling
