pub mod Groups
pub mod Meanings
pub mod Fields
pub mod Known
pub mod Ready
