use Rattle.std.proofs.Common.{◌≡◌, ◌≤◌, length}
use Rattle.alloy_lex.specs.Fronts.{number_from}
use Rattle.alloy_lex.proofs.front.is_small.Given as goal

abbrev pub invariant-each : goal.invariant-each
invariant-each l = record { value : number_from l.value l.rest ≡ number_from 0 l.digits; small : l.value ≤ 1000 }

abbrev pub decreases-each : goal.decreases-each
decreases-each l = length l.rest
