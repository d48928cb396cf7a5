use Rattle.std.proofs.Common.{◌≤◌, ◌<◌, ℕ, length, get_or}
use Rattle.unit_propagation.specs.declared.assignment_trail.assigned.Assigned.{Assigned}
use Rattle.unit_propagation.proofs.watched_literals.back.count_up_to.Given as goal

abbrev pub invariant-looking : goal.invariant-looking
invariant-looking l = record {
  within : l.count ≤ length l.now.assigned;
  above : (j : ℕ) (d : Assigned) → l.count ≤ j → j < length l.now.assigned → l.level < (get_or l.now.assigned j d).level;
}

abbrev pub decreases-looking : goal.decreases-looking
decreases-looking l = l.count
