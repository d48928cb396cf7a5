pub mod Answers
pub mod Formulas
pub mod Sets
pub mod Descents
