pub mod Rule
pub mod Walk
pub mod Closed
pub mod PendingState
pub mod Pended
