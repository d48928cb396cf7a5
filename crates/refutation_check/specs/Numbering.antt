-- How the variables that occur are numbered.
use Rattle.std.specs.Prelude.{◌≡◌, ◌≤◌, ◌+◌, ◌-◌, ◌^◌, ℕ, List, All, Contains, Some, map, length, slice_get, slice_index_or}
use Rattle.std.specs.List.Sorted.{IsStrictlyIncreasing}
use Rattle.cnf_core.specs.declared.literal.Lit.{Lit}

-- the variables of a clause
abbrev pub variables_of : List Lit → List ℕ
variables_of clause = map (λ l. l.var) clause

-- 0, and the variables in rising order
pub record IsNumbering (names : List ℕ) : Type 0 where
  pub rising : IsStrictlyIncreasing names
  pub first : slice_get names 0 ≡ Some 0
  pub few : length names ≤ 2 ^ 31

-- each variable of the clause has a number
abbrev pub IsNumbered : List ℕ → List Lit → Type 0
IsNumbered names clause = All (λ l. Contains names l.var) clause

-- the variable of a number; those behind the last have larger ones
abbrev pub name_in : List ℕ → ℕ → ℕ
name_in names number = slice_index_or names number (slice_index_or names (length names - 1) 0 + number)
