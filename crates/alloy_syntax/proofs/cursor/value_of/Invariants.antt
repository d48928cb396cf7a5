use Rattle.std.proofs.Common.{◌≡◌, ◌≤◌, length}
use Rattle.alloy_syntax.specs.Readers.{value_from}
use Rattle.alloy_syntax.proofs.cursor.value_of.Given as goal

abbrev pub invariant-each : goal.invariant-each
invariant-each l = record { value : value_from l.value l.rest ≡ value_from 0 l.digits; few : l.value ≤ 1001 }

abbrev pub decreases-each : goal.decreases-each
decreases-each l = length l.rest
