use Rattle.std.proofs.Common.{◌≡◌, length}
use Rattle.solver_tests.proofs.of_watched_literals.marked.Given as goal

abbrev pub invariant-loop-is_marked : goal.invariant-loop-is_marked
invariant-loop-is_marked l = length l.pending.flags ≡ l.is_marked-index
