pub mod Formulas
pub mod KeptLiterals
pub mod Literals
pub mod SameLiterals
