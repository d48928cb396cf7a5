use Rattle.std.proofs.Common.{◌≡◌, ◌++◌, replicate}
use Rattle.alloy_types.proofs.known_callees.callee.add.Given as goal

abbrev pub invariant-loop : goal.invariant-loop
invariant-loop l = l.arities.items ≡ l.fn.arities.items ++ replicate l.counter l.arity
