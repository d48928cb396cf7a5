use Rattle.std.proofs.Common.{◌≡◌, ◌≤◌, ◌+◌, length}
use Rattle.sat_trail.specs.Learning.{Learning}
use Rattle.sat_trail.proofs.learning.learn.Given as goal

abbrev pub invariant-loop-n : goal.invariant-loop-n
invariant-loop-n l = record {
  so_far : Learning l.trail.clauses l.trail.assigned l.conflict l.seen.items l.kept.items l.hints.items l.n;
  long : length l.seen.items ≡ l.trail.vars + 1;
  in_range : l.n ≤ length l.trail.assigned;
}

abbrev pub decreases-loop-n : goal.decreases-loop-n
decreases-loop-n l = l.n
