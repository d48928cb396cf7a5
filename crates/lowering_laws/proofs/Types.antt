pub mod Places
pub mod Closures
pub mod Operators
pub mod Expressions
pub mod Relations
pub mod Calls
pub mod Variables
pub mod Contexts
