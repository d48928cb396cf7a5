pub mod Numbered
pub mod Climbing
pub mod Coded
pub mod Marks
