pub mod HubView
pub mod Held
pub mod Journal
