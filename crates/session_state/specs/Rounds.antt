pub mod Rounds
pub mod Going
pub mod Resting
pub mod Descended
pub mod Next
pub mod Held
