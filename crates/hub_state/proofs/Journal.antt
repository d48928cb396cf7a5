pub mod Prefixes
pub mod Pools
pub mod Imports
pub mod FirstEntries
pub mod Replays
