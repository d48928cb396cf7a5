-- What a formula in clause form is.
use Rattle.std.specs.Prelude.{ℕ, ◌<◌, ◌^◌, List, All, length}
use Rattle.cnf_core.specs.declared.literal.Lit.{Lit}
use Rattle.cnf_core.specs.Literal.{IsClause, HasVarsUpTo}

-- clauses over the variables from 1 to vars
pub record Formula : Type 0 where
  pub vars : ℕ
  pub clauses : List (List Lit)

-- each clause is one over these variables, and there are at most 1,073,741,823
pub record IsFormula (f : Formula) : Type 0 where
  pub variables : f.vars < 2 ^ 31
  pub clauses : All IsClause f.clauses
  pub within : All (HasVarsUpTo f.vars) f.clauses
  pub few : length f.clauses < 2 ^ 30
