use Rattle.std.proofs.Common.{◌≡◌, length}
use Rattle.alloy_syntax.specs.Readers.{colon_after_names}
use Rattle.alloy_syntax.proofs.cursor.colon_after_names.Given as goal

abbrev pub invariant-each : goal.invariant-each
invariant-each l = colon_after_names l.rest.left.now ≡ colon_after_names l.tokens.left.now

abbrev pub decreases-each : goal.decreases-each
decreases-each l = length l.rest.left.now
