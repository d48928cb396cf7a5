pub mod BareProblems
