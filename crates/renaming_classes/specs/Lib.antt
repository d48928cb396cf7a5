pub mod Least
pub mod Classes
pub mod Keeping
pub mod Orbits
pub mod Placing
pub mod Counts
