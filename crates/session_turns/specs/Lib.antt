pub mod Serving
pub mod Showing
pub mod Seated
pub mod Added
pub mod Served
pub mod Allowed
