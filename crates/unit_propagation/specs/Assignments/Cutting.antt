-- What is undone where an assignment is cut.
use Rattle.std.specs.Prelude.{◌≡◌, ◌+◌, ◌<◌, ℕ, Bool, Option, List, All, length, take, is_none, count_by, slice_index_or}
use Rattle.refutation_check.specs.Assumed.{IsOpen}
use Rattle.refutation_check.specs.Marks.{Marks}
use Rattle.unit_propagation.specs.declared.assignment_trail.assigned.Assigned.{Assigned}
use Rattle.unit_propagation.specs.Assignments.Trail.{falses_of}

-- each literal was open when it was made true
abbrev pub AreFresh : List Assigned → Type 0
AreFresh assigned = (i : ℕ) (d : Assigned) → i < length assigned → IsOpen (falses_of (take i assigned)) (slice_index_or assigned i d).lit

-- the values are those of these literals, and each variable without one leaves room for one more
pub record IsMarking (marks : List (Option Bool)) (assigned : List Assigned) : Type 0 where
  pub marked : Marks marks (falses_of assigned)
  pub in_range : All (λ a. a.lit.var < length marks) assigned
  pub open_count : length assigned + count_by is_none marks ≡ length marks
