pub mod Crew
pub mod Passing
pub mod Searching
