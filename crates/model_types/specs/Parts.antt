pub mod Arrows
pub mod Kinds
pub mod Tables
