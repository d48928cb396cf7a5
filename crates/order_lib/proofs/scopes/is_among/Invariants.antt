use Rattle.std.proofs.Common.{◌≡◌, length}
use Rattle.order_lib.specs.Scopes.{is_among}
use Rattle.order_lib.proofs.scopes.is_among.Given as goal

abbrev pub invariant-each : goal.invariant-each
invariant-each l = is_among l.rest l.text ≡ is_among l.names l.text

abbrev pub decreases-each : goal.decreases-each
decreases-each l = length l.rest
