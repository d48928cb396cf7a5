pub mod Lowered
pub mod Signatures
pub mod Placing
pub mod Bounding
