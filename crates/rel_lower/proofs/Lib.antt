pub mod NamesApart
pub mod Numbers
pub mod Problems
pub mod Signatures
pub mod Fields
pub mod Placing
pub mod Bounding
