pub mod Fold
pub mod Folding
pub mod Network
pub mod Value
