pub mod Headers
pub mod Callees
