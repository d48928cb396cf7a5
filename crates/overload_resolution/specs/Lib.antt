pub mod Expressions
pub mod Fields
pub mod Names
pub mod Settling
pub mod Scopes
pub mod Parts
