pub mod Said
pub mod Extending
