pub mod Bracketing
pub mod Chains
pub mod Climbs
pub mod Tops
