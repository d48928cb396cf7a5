use Rattle.std.proofs.Common.{◌≡◌, map, length}
use Rattle.alloy_syntax.specs.Class.{class_in}
use Rattle.alloy_syntax.proofs.class.class_in.Given as goal

abbrev pub invariant-each : goal.invariant-each
invariant-each l = class_in (map (λ entry. (entry.0.now, entry.1)) l.rest) l.text ≡ class_in (map (λ entry. (entry.0.now, entry.1)) l.table) l.text

abbrev pub decreases-each : goal.decreases-each
decreases-each l = length l.rest
