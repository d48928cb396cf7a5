pub mod SubsetLemmas
pub mod SiftedLists
pub mod Offered
