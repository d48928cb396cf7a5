use Rattle.std.proofs.Common.{◌≡◌, length}
use Rattle.alloy_types.proofs.known_callees.whole.no_headers.Given as goal

abbrev pub invariant-loop : goal.invariant-loop
invariant-loop l = length l.headers.items ≡ l.counter
