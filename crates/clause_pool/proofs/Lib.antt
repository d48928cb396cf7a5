pub mod NewNumbers
pub mod Accepting
pub mod Fitting
