pub mod GrowingNames
