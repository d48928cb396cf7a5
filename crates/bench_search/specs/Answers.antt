-- What is said of an answer that was accepted.
use Rattle.std.specs.Prelude.{◌≤◌, ℕ, Bool, List, All, length}
use Rattle.cnf_core.specs.declared.literal.Lit.{Lit}
use Rattle.cnf_core.specs.Literal.{HasVarsUpTo}
use Rattle.cnf_core.specs.Valuation.{Satisfies}
use Rattle.sat_core.specs.declared.search.Answer.{Answer}
use Rattle.sat_core.specs.declared.search.Answer.TheVariants as answer
use Rattle.bench_search.specs.declared.found.End.{End}
use Rattle.bench_search.specs.declared.found.End.TheVariants.{Found, Refuted, Spent}

-- what an answer comes to
abbrev pub end_of : Answer → End
end_of (answer.Found valuation log) = Found
end_of (answer.Refuted log) = Refuted
end_of (answer.Spent log) = Spent

-- what was found satisfies the clauses, and where they are refuted, nothing does
abbrev pub IsTold : List (List Lit) → End → Type 0
IsTold clauses Found = (v : ℕ → Bool) × Satisfies v clauses
IsTold clauses Refuted = (v : ℕ → Bool) → ¬ Satisfies v clauses
IsTold clauses Spent = Unit {0}

-- a valuation has so many variables, and the steps of a refutation no further ones
abbrev pub IsOver : ℕ → Answer → Type 0
IsOver vars (answer.Found valuation log) = vars ≤ length valuation
IsOver vars (answer.Refuted log) = All (λ s. HasVarsUpTo vars s.clause) log
IsOver vars (answer.Spent log) = Unit {0}
