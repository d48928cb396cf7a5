pub mod Shapes
pub mod Stages
pub mod Texts
