use Rattle.std.proofs.Common.{◌≡◌, drop}
use Rattle.order_lib.specs.Scopes.{with_signatures, ordered_in}
use Rattle.order_lib.proofs.scopes.ordered_in.Given as goal

abbrev pub invariant-loop-ordering : goal.invariant-loop-ordering
invariant-loop-ordering l = with_signatures l.names.items (drop l.ordering-index l.opens) ≡ ordered_in l.opens
