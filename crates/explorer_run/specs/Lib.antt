pub mod Served
pub mod Parts
pub mod Seats
