use Rattle.std.proofs.Common.{◌≡◌, replicate, None}
use Rattle.alloy_types.proofs.known_callees.whole.no_bodies.Given as goal

abbrev pub invariant-loop : goal.invariant-loop
invariant-loop l = l.bodies.items ≡ replicate l.counter None
