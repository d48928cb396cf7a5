pub mod Lines
pub mod ModelParts
pub mod DeclaredCounts
pub mod Bodies
pub mod Paragraphs
pub mod Commands
