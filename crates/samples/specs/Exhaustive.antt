pub mod Subsets
