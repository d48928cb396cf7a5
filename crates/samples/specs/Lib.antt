pub mod Exhaustive
