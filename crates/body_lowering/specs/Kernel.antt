pub mod View
pub mod Binding
