pub mod Agreeing
pub mod SameAnswers
pub mod Bodies
pub mod Ranks
pub mod TypesAlike
