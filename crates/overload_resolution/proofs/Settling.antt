pub mod Binds
pub mod Typed
pub mod SharedDeclarations
pub mod SettledAlike
pub mod Asking
pub mod OperandTurns
pub mod Reaching
pub mod Loops
