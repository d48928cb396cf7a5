pub mod ParagraphParts
pub mod ParagraphLoops
