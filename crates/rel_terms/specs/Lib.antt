pub mod Numbers
pub mod Upper
pub mod Terms
pub mod Counting
