pub mod Fits
pub mod Proposed
pub mod Replied
pub mod Listed
