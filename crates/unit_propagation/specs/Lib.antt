pub mod Clauses
pub mod Watches
pub mod Activity
pub mod Assignments
pub mod Propagation
