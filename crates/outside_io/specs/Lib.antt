pub mod Count
pub mod Front
pub mod Memory
pub mod Status
pub mod Streams
