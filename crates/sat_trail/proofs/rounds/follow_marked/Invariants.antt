use Rattle.std.proofs.Common.{◌≡◌, ◌<◌, [], ℕ, length, get_or}
use Rattle.unit_propagation.specs.Assignments.Trail.{ForcesMore, falses_of, level_of}
use Rattle.unit_propagation.specs.Propagation.Walk.{IsReady}
use Rattle.sat_trail.specs.Rounds.{IsQuiet}
use Rattle.sat_trail.proofs.rounds.follow_marked.Given as goal

abbrev pub invariant-loop-n : goal.invariant-loop-n
invariant-loop-n l = record {
  ready : IsReady l.store l.watches l.now l.pending.flags l.propagated;
  vars : l.now.vars ≡ l.fn.now.vars;
  more : ForcesMore l.fn.now.assigned l.now.assigned;
  level : level_of l.now.assigned ≡ level_of l.fn.now.assigned;
  quiet : length l.now.assigned ≡ length l.fn.now.assigned → (k : ℕ) → k < l.n-index → IsQuiet (falses_of l.now.assigned) (get_or l.store (get_or l.pending.list k 0) []);
}
