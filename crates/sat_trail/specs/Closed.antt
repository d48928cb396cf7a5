-- What it is that propagation leaves: a trail that is closed under unit clauses, or a falsified clause.
use Rattle.std.specs.Prelude.{◌≡◌, ◌<◌, ℕ, List, All, Contains, None, length, take, slice_index_or}
use Rattle.cnf_core.specs.declared.literal.Lit.{Lit}
use Rattle.refutation_check.specs.Chain.{IsFalsified, IsUnit, Refutes}
use Rattle.unit_propagation.specs.declared.assignment_trail.assigned.Assigned.{Assigned}
use Rattle.sat_trail.specs.declared.trail.Propagated.{Propagated}
use Rattle.sat_trail.specs.declared.trail.Propagated.TheVariants.{Closed, Conflict}
use Rattle.unit_propagation.specs.Assignments.Trail.{falses_of}
use Rattle.sat_trail.specs.Trailed.{Trailed}

-- no clause is falsified, and none is a unit with its literal open
abbrev pub IsClosed : List (List Lit) → List Lit → Type 0
IsClosed clauses falses = All (λ c. (¬ IsFalsified (Contains falses) c) × ((l : Lit) → ¬ IsUnit (Contains falses) c l)) clauses

-- the trail was closed before each decision, for the clauses that it holds now
abbrev pub IsClosedBelow : List (List Lit) → List Assigned → Type 0
IsClosedBelow clauses assigned = (i : ℕ) (d : Assigned) → i < length assigned → (slice_index_or assigned i d).reason ≡ None → IsClosed clauses (falses_of (take i assigned))

-- what propagation says of the trail that it leaves
abbrev pub IsPropagated : Trailed → Propagated → Type 0
IsPropagated t Closed = IsClosed t.clauses (falses_of t.assigned)
IsPropagated t (Conflict n) = Refutes t.clauses (falses_of t.assigned) n
