pub mod Cells
pub mod DescentStates
pub mod SolverAnswers
pub mod LoweredTrails
