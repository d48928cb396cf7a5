pub mod Counts
pub mod Stages
pub mod Bodies
pub mod Paragraphs
pub mod Commands
