pub mod AddedClauses
pub mod Cases
pub mod SameCells
pub mod OneCell
pub mod CellChains
pub mod Pairs
