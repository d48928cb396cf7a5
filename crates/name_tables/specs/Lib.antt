pub mod Occurrence
pub mod Levels
pub mod InForce
pub mod Told
pub mod Signatures
pub mod Repeats
pub mod Globals
pub mod Parents
