pub mod Units
pub mod Variables
