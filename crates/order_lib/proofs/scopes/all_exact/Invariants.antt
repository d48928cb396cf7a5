use Rattle.std.proofs.Common.{◌≡◌, map, take}
use Rattle.order_lib.specs.Scopes.{made_exact}
use Rattle.order_lib.proofs.scopes.all_exact.Given as goal

abbrev pub invariant-loop-entry : goal.invariant-loop-entry
invariant-loop-entry l = l.all.items ≡ map (made_exact l.ordered) (take l.entry-index l.entries)
