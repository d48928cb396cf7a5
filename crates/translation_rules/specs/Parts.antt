-- Parts of a search over a translation, with steps that were imported.
use Rattle.std.specs.Prelude.{◌≡◌, ◌≢◌, ◌<◌, ◌++◌, ◌∷◌, [], ℕ, List, sum_by, length, All, AllPairs, Contains}
use Rattle.std.specs.List.{AllZip}
use Rattle.cnf_core.specs.declared.literal.Lit.{Lit}
use Rattle.refutation_check.specs.declared.log.Step.{Step as LogStep}
use Rattle.refutation_check.specs.Chain.{members_of}
use Rattle.refutation_check.specs.SearchLog.{IsSearchLog, HasNoEmpty, novel_steps}
use Rattle.refutation_check.specs.Part.{Parted}
use Rattle.rel_formula.specs.Bounds.{Bounded, cells_of}
use Rattle.rel_formula.specs.Instance.{with_cell}
use Rattle.translation_rules.specs.Translation.{Translated}
use Rattle.translation_rules.specs.Locals.{units_of}

-- what a part derives from: the clauses of the translation, the part's own, and the imported steps
abbrev pub given_to : Translated → List LogStep → Parted → List (List Lit)
given_to t pool part = members_of (t.cnf.clauses ++ part.local) pool

-- the log of each part is that of a search over what the part derives from
abbrev pub AreSearched : Translated → List LogStep → List Parted → Type 0
AreSearched t pool parts = All (λ part. IsSearchLog (given_to t pool part) part.log) parts

-- how many steps of the parts are novel
abbrev pub novel_in : Translated → List LogStep → List Parted → ℕ
novel_in t pool parts = sum_by (λ part. novel_steps (given_to t pool part) part.log) parts

-- the part goes on: none of its steps is empty, and one more can be derived behind them
pub record GoesOn (t : Translated) (pool : List LogStep) (part : Parted) : Type 0 where
  pub no_empty : HasNoEmpty part.log
  pub step : LogStep
  pub one_more : IsSearchLog (given_to t pool part) (part.log ++ step ∷ [])

-- there is a last part, and it goes on
pub record LastGoesOn (t : Translated) (pool : List LogStep) (parts : List Parted) : Type 0 where
  pub before : List Parted
  pub last : Parted
  pub in_order : parts ≡ before ++ last ∷ []
  pub goes_on : GoesOn t pool last

-- the part has the scenario and this cell, which is outside, as units
pub record TriesCell (p : Bounded) (scenario : List ℕ) (cell : ℕ) (part : Parted) : Type 0 where
  pub in_range : cell < length (cells_of p)
  pub absent : ¬ Contains scenario cell
  pub local : part.local ≡ units_of (with_cell cell scenario)

-- there is one part for each of these cells, which are distinct
pub record TryCells (p : Bounded) (scenario : List ℕ) (parts : List Parted) : Type 0 where
  pub cells : List ℕ
  pub distinct : AllPairs (λ m n. m ≢ n) cells
  pub each : AllZip (TriesCell p scenario) cells parts
