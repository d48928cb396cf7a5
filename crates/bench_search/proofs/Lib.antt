pub mod SearchLemmas
pub mod SetLemmas
pub mod AskedLemmas
