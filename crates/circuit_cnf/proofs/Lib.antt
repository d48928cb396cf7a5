pub mod Agreeing
pub mod Answering
pub mod Defining
pub mod Finishing
pub mod GrowingEncodings
pub mod OutputMarks
pub mod Pushed
