use Rattle.std.proofs.Common.{◌≡◌, length}
use Rattle.order_lib.specs.Faults.{has_alias}
use Rattle.order_lib.proofs.refusals.has_alias.Given as goal

abbrev pub invariant-each : goal.invariant-each
invariant-each l = has_alias l.rest l.text ≡ has_alias l.opens l.text

abbrev pub decreases-each : goal.decreases-each
decreases-each l = length l.rest
