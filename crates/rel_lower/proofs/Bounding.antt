pub mod Cells
pub mod Lists
pub mod Outlines
pub mod PlacedProducts
pub mod Sizes
pub mod TypedBounds
pub mod EvenLists
