pub mod Calling
pub mod Chaining
pub mod Each
pub mod SeenPhrases
pub mod PartTypes
