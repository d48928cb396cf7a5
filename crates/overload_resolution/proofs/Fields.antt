pub mod Founds
pub mod Unions
pub mod Fitting
pub mod Naming
pub mod Keeping
