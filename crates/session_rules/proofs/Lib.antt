mod OneFloor
mod Readings
mod Refuted
mod Searched
pub mod KeptFloors
pub mod Runs
