pub mod Typed
pub mod Outcomes
pub mod Meanings
pub mod Declarations
pub mod Headers
pub mod Calls
