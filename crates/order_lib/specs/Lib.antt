pub mod Library
pub mod Scopes
pub mod Faults
pub mod Expanded
