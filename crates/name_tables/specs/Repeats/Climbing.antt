-- From a signature to its parent, by numbers.
use Rattle.std.specs.Prelude.{◌≡◌, ◌==◌, ℕ, zero, suc, List, [], ◌∷◌, length, slice_index_or, Option, Some, None, if◌then◌else◌}
use Rattle.name_tables.specs.declared.repeated_names.links.Link.{Link}
use Rattle.name_tables.specs.declared.repeated_names.tops.Parents.{Parents}

-- the parent of the first signature of a name
abbrev pub parent_in : List Link → ℕ → Option ℕ
parent_in [] w = None
parent_in (l ∷ ls) w = if l.name == w then l.parent else parent_in ls w

-- what has no parent, so many steps above
abbrev pub top_in : List (Option ℕ) → ℕ → ℕ → Option ℕ
top_in table zero w = None
top_in table (suc n) w = elim (slice_index_or table w None) [ None ↦ Some w | Some p ↦ top_in table n p ]

pub record AreParents (links : List Link) (parents : Parents) : Type 0 where
  pub each : (w : ℕ) → slice_index_or parents.table.items w None ≡ parent_in links w
  pub all : parents.count ≡ length links
