pub mod Words
pub mod Fronts
pub mod Taken
pub mod Tokens
pub mod Reading
