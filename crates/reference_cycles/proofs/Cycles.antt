pub mod WalkEdges
pub mod EdgeHeights
pub mod NumbersMet
