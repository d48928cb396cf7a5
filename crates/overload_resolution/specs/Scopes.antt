pub mod Zipped
pub mod Declaring
pub mod Given
