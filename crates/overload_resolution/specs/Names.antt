pub mod Shared
pub mod Asking
pub mod Headers
