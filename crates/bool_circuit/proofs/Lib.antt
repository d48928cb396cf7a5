pub mod Values
pub mod MadeNodes
pub mod Sizes
pub mod CallerLemmas
