use Rattle.std.proofs.Common.{◌≤◌, ◌+◌, length}
use Rattle.bench_search.proofs.effort.effort.Given as goal

abbrev pub invariant-loop-turn : goal.invariant-loop-turn
invariant-loop-turn l = length l.trail.clauses ≤ 1000000 + l.turn
