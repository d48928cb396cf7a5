pub mod Holding
pub mod Looks
pub mod TrailMarks
pub mod Trails
