pub mod Outlined
mod Symmetric
pub mod Tops
pub mod Atoms
mod FormedProblems
mod OneProblem
mod FirstFaults
pub mod Unfolded
pub mod Inversion
mod Shifts
mod Operators
mod Bound
mod Rightness
mod Bodies
mod Sound
pub mod Arities
mod SettledBounds
mod ProperDeclarations
pub mod ProblemFormulas
mod SettledCalls
mod StableParts
pub mod Headers
pub mod Paragraphs
mod References
pub mod Ranks
