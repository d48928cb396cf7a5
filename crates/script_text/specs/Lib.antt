pub mod Asked
pub mod Faults
pub mod Limits
pub mod Lines
pub mod Printable
pub mod Printed
pub mod Replies
pub mod Proofs
