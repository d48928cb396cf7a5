pub mod TwoSets
