use Rattle.std.proofs.Common.{◌≡◌, length}
use Rattle.order_lib.specs.Scopes.{is_listed}
use Rattle.order_lib.proofs.scopes.is_listed.Given as goal

abbrev pub invariant-each : goal.invariant-each
invariant-each l = is_listed l.rest l.text ≡ is_listed l.entries l.text

abbrev pub decreases-each : goal.decreases-each
decreases-each l = length l.rest
