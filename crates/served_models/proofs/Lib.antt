pub mod CommandsWithSessions
pub mod Refusals
pub mod Usables
