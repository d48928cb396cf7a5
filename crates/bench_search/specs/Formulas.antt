-- What holds of formulas while they are made.
use Rattle.std.specs.Prelude.{◌≡◌, ◌≤◌, ℕ, length}
use Rattle.cnf_core.specs.Formula.{Formula}

-- over so many variables, and at most a million clauses
pub record IsSmall (vars : ℕ) (f : Formula) : Type 0 where
  pub vars_are : f.vars ≡ vars
  pub few : length f.clauses ≤ 1000000
