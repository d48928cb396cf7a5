pub mod Bounds
pub mod Typed
