-- How many variables a translation has at most.
use Rattle.std.specs.Prelude.{◌+◌, ◌*◌, ◌≤◌, ◌++◌, ℕ, List, flat_map, length, All}
use Rattle.cnf_core.specs.declared.literal.Lit.{Lit}
use Rattle.cnf_core.specs.Literal.{HasVarsUpTo}
use Rattle.refutation_check.specs.declared.log.Step.{Step}
use Rattle.sat_core.specs.Limits.Over.{AreOver}
use Rattle.rel_formula.specs.Bounds.{cells_of}
use Rattle.translation_rules.specs.Translation.{Translated}

-- the cells, the clauses and the imported steps have only the first v variables
pub record AreOverFirst (v : ℕ) (t : Translated) (imported : List Step) : Type 0 where
  pub cells : length (cells_of t.problem) ≤ v
  pub cnf : All (HasVarsUpTo v) t.cnf.clauses
  pub swaps : All (λ x. All (HasVarsUpTo v) x.cnf.clauses) t.swaps
  pub pool : AreOver v imported

-- the clauses of the instances, and those of all swaps
abbrev pub all_clauses : Translated → List (List Lit)
all_clauses t = t.cnf.clauses ++ flat_map (λ x. x.cnf.clauses) t.swaps

-- with c cells, t terms and w swaps: those of the instances, and c + 1 for each swap
abbrev pub most_variables : ℕ → ℕ → ℕ → ℕ
most_variables c t w = 2 * c + 2 + 16 * t + w * (c + 1)
