pub mod ListsGoneOver
pub mod Numbers
pub mod Parents
pub mod Tables
pub mod Coding
pub mod Loops
pub mod Repeating
pub mod DeclaredMarks
