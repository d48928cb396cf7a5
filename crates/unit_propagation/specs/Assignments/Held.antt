-- What an assignment keeps beside its literals: the values and levels of the variables, and room for those that are open.
use Rattle.std.specs.Prelude.{◌≡◌, ◌+◌, ◌^◌, ◌<◌, ◌≤◌, ℕ, List, All, length, vec_capacity, is_none, count_by, slice_index_or}
use Rattle.refutation_check.specs.Marks.{Marks}
use Rattle.unit_propagation.specs.declared.assignment_trail.assigned.Assigned.{Assigned}
use Rattle.unit_propagation.specs.Assignments.Cutting.{AreFresh}
use Rattle.unit_propagation.specs.Assignments.Trail.{IsVarUpTo, falses_of}
use Rattle.unit_propagation.specs.declared.assignment_trail.assignment.Assignment.TheInside.{Inside}

-- each variable that is assigned has its level there
abbrev pub AreLevels : List ℕ → List Assigned → Type 0
AreLevels levels assigned = (i : ℕ) (d : Assigned) → i < length assigned → slice_index_or levels (slice_index_or assigned i d).lit.var 0 ≡ (slice_index_or assigned i d).level

pub record IsHeld (t : Inside) : Type 0 where
  pub marked : Marks t.marks.items (falses_of t.assigned.items)
  pub in_range : All (IsVarUpTo t.vars) t.assigned.items
  pub fresh : AreFresh t.assigned.items
  pub levels : AreLevels t.levels.items t.assigned.items
  pub long : length t.marks.items ≡ t.vars + 1
  pub levels_long : length t.levels.items ≡ t.vars + 1
  pub small : t.vars < 2 ^ 31
  pub room : length t.marks.items ≤ vec_capacity t.assigned
  pub open_count : length t.assigned.items + count_by is_none t.marks.items ≡ length t.marks.items
