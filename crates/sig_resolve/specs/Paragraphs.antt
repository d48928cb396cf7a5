pub mod Listed
pub mod Bodies
