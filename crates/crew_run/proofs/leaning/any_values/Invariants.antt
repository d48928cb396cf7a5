use Rattle.std.proofs.Common.{◌≡◌, length}
use Rattle.crew_run.proofs.leaning.any_values.Given as goal

abbrev pub invariant-loop : goal.invariant-loop
invariant-loop l = length l.values.items ≡ l.counter
