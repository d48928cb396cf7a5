-- What a part of a search is.
use Rattle.std.specs.Prelude.{List}
use Rattle.cnf_core.specs.declared.literal.Lit.{Lit}
use Rattle.refutation_check.specs.declared.log.Step.{Step}

-- clauses that hold in this part alone, and what was derived with them
pub record Parted : Type 0 where
  pub local : List (List Lit)
  pub log : List Step
