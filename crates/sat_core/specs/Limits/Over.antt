-- Steps over the first variables.
use Rattle.std.specs.Prelude.{ℕ, List, All}
use Rattle.cnf_core.specs.Literal.{HasVarsUpTo}
use Rattle.refutation_check.specs.declared.log.Step.{Step}

-- the clause of each step has only the first variables, so many of them
abbrev pub AreOver : ℕ → List Step → Type 0
AreOver vars log = All (λ s. HasVarsUpTo vars s.clause) log
