pub mod Trail
pub mod AssignmentState
pub mod Cutting
pub mod Held
