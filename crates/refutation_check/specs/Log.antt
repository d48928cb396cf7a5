-- What a log is.
use Rattle.std.specs.Prelude.{◌<◌, ◌^◌, List, All, length}
use Rattle.cnf_core.specs.Literal.{IsClause}
use Rattle.refutation_check.specs.declared.log.Step.{Step}

-- at most 1,073,741,823 steps, each with a clause
pub record IsLog (steps : List Step) : Type 0 where
  pub clauses : All (λ s. IsClause s.clause) steps
  pub few : length steps < 2 ^ 30
