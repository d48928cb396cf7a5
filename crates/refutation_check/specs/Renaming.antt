-- Literals, clauses and steps whose variables have other names.
use Rattle.std.specs.Prelude.{◌≡◌, ℕ, List, map}
use Rattle.cnf_core.specs.declared.literal.Lit.{Lit}
use Rattle.refutation_check.specs.declared.log.Step.{Step}

-- no two variables have one name
abbrev pub AreApart : (ℕ → ℕ) → Type 0
AreApart name = (a b : ℕ) → name a ≡ name b → a ≡ b

-- the variable has its name, and the sign stays
abbrev pub renamed : (ℕ → ℕ) → Lit → Lit
renamed name l = record { var = name l.var; positive = l.positive }

abbrev pub renamed_clause : (ℕ → ℕ) → List Lit → List Lit
renamed_clause name clause = map (renamed name) clause

-- the hints stay
abbrev pub renamed_step : (ℕ → ℕ) → Step → Step
renamed_step name s = record { clause = renamed_clause name s.clause; hints = s.hints }
