-- What a round of propagation comes to.
use Rattle.std.specs.Prelude.{◌≡◌, ◌+◌, ◌<◌, ◌⊎◌, ℕ, Bool, List, [], Contains, length, slice_index_or}
use Rattle.cnf_core.specs.declared.literal.Lit.{Lit}
use Rattle.refutation_check.specs.Chain.{IsFalsified, IsUnit, Refutes}
use Rattle.unit_propagation.specs.Assignments.AssignmentState.{AssignmentState}
use Rattle.unit_propagation.specs.Assignments.Trail.{falses_of}
use Rattle.unit_propagation.specs.Propagation.Rule.{IsMarked}
use Rattle.sat_trail.specs.Closed.{IsClosed}
use Rattle.sat_trail.specs.declared.rounds.Outcome.{Outcome}
use Rattle.sat_trail.specs.declared.rounds.Outcome.TheVariants.{Conflict, Closed, Grown}

-- the clause is not falsified, and is no unit with its literal open
abbrev pub IsQuiet : List Lit → List Lit → Type 0
IsQuiet falses clause = (¬ IsFalsified (Contains falses) clause) × ((l : Lit) → ¬ IsUnit (Contains falses) clause l)

-- so is each clause that is marked
abbrev pub AreQuiet : List (List Lit) → List Lit → List Bool → Type 0
AreQuiet clauses falses flags = (n : ℕ) → IsMarked flags n → IsQuiet falses (slice_index_or clauses n [])

-- a literal more is true, or nothing changed, and the clause at this place is quiet
abbrev pub IsFollowed : List (List Lit) → AssignmentState → AssignmentState → ℕ → Type 0
IsFollowed clauses old new n = (length old.assigned < length new.assigned) ⊎ ((new ≡ old) × IsQuiet (falses_of new.assigned) (slice_index_or clauses n []))

-- what a round came to
abbrev pub IsOutcome : List (List Lit) → AssignmentState → AssignmentState → Outcome → Type 0
IsOutcome clauses old new (Conflict n) = Refutes clauses (falses_of new.assigned) (n + 1)
IsOutcome clauses old new Closed = IsClosed clauses (falses_of new.assigned)
IsOutcome clauses old new Grown = length old.assigned < length new.assigned
