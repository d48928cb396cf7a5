pub mod Tables
pub mod Makes
pub mod Grounding
