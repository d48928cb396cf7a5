pub mod Free
pub mod Translation
pub mod Imports
pub mod Offers
pub mod Locals
pub mod Parts
pub mod Descents
