pub mod Free
pub mod Search
pub mod Offering
pub mod Raising
