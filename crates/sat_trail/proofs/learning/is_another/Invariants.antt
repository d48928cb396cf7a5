use Rattle.std.proofs.Common.{◌≡◌, ◌<◌, ◌≤◌, ℕ, length, get_or}
use Rattle.unit_propagation.specs.declared.assignment_trail.assigned.Assigned.{Assigned}
use Rattle.sat_trail.specs.Learning.{IsMarked}
use Rattle.sat_trail.proofs.learning.is_another.Given as goal

abbrev pub invariant-looking : goal.invariant-looking
invariant-looking l = record {
  in_range : l.n ≤ length l.older;
  none : (k : ℕ) (d : Assigned) → l.n ≤ k → k < length l.older → IsMarked l.seen (get_or l.older k d).lit.var → (get_or l.older k d).level ≡ l.level → ⊥;
}

abbrev pub decreases-looking : goal.decreases-looking
decreases-looking l = l.n
