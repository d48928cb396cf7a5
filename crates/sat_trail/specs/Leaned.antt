-- To which values a search decides variables.
use Rattle.std.specs.Prelude.{ℕ, ◌-◌, Bool, List, slice_index_or}

-- the values of the first variables, and that of all others
pub record Leaned : Type 0 where
  pub values : List Bool
  pub other : Bool

-- the value to which a variable, from 1 on, leans
abbrev pub leans_to : Leaned → ℕ → Bool
leans_to leaned var = slice_index_or leaned.values (var - 1) leaned.other
