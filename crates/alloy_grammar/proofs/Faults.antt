pub mod Follows
pub mod Nodes
pub mod Rooms
pub mod Bounds
pub mod Models
pub mod LastTokens
pub mod NodesAmong
pub mod ModelsAmong
