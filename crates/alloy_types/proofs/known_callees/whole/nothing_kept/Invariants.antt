use Rattle.std.proofs.Common.{◌≡◌, replicate, None}
use Rattle.alloy_types.proofs.known_callees.whole.nothing_kept.Given as goal

abbrev pub invariant-loop : goal.invariant-loop
invariant-loop l = l.kept.items ≡ replicate l.counter None
