pub mod ClassLaws
pub mod Moved
pub mod Decided
pub mod Searching
pub mod Listing
pub mod Factorials
