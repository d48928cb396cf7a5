pub mod Lists
pub mod Operands
pub mod Entered
pub mod PathHeads
pub mod Answered
pub mod Arms
pub mod WalkedParts
