pub mod Lying
pub mod Orders
pub mod OrderingTexts
pub mod OrderingCalls
pub mod OrderingFaults
