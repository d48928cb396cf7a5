pub mod SameListsMade
pub mod ListEnds
pub mod Sets
pub mod SetsSoFar
