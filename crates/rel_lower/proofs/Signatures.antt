pub mod FormulaLists
pub mod Extended
