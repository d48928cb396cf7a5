-- When a clause needs no mark.
use Rattle.std.specs.Prelude.{◌≡◌, ◌+◌, ◌*◌, ◌<◌, ◌≤◌, ℕ, List, length, slice_index_or}
use Rattle.cnf_core.specs.Literal.{negation_of}
use Rattle.unit_propagation.specs.Clauses.Codes.{literal_of}
use Rattle.unit_propagation.specs.declared.assignment_trail.assigned.Assigned.{Assigned}

-- where the one literal is false, the other is true, at no higher level
abbrev pub IsHeldUp : List Assigned → ℕ → ℕ → Type 0
IsHeldUp assigned code other =
    (i : ℕ) → i < length assigned → ((d : Assigned) → negation_of (slice_index_or assigned i d).lit ≡ literal_of code) → (j : ℕ) × (j < length assigned) × ((d : Assigned) → (slice_index_or assigned j d).lit ≡ literal_of other) × ((d : Assigned) → (slice_index_or assigned j d).level ≤ (slice_index_or assigned i d).level)

-- so it is of both watched literals of the clause at this place, which are no short clause's
pub record NeedsNoMark (codes : List ℕ) (assigned : List Assigned) (n : ℕ) : Type 0 where
  pub first_is : 2 ≤ slice_index_or codes (2 * n) 0
  pub second_is : 2 ≤ slice_index_or codes (2 * n + 1) 0
  pub first : IsHeldUp assigned (slice_index_or codes (2 * n) 0) (slice_index_or codes (2 * n + 1) 0)
  pub second : IsHeldUp assigned (slice_index_or codes (2 * n + 1) 0) (slice_index_or codes (2 * n) 0)
