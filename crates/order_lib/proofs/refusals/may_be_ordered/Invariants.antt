use Rattle.std.proofs.Common.{◌≡◌, length, map}
use Rattle.alloy_syntax.specs.View.{paragraph_view}
use Rattle.order_lib.specs.Faults.{declaration_of}
use Rattle.order_lib.proofs.refusals.may_be_ordered.Given as goal

abbrev pub invariant-each : goal.invariant-each
invariant-each l = declaration_of (map paragraph_view l.rest) l.text ≡ declaration_of (map paragraph_view l.paragraphs) l.text

abbrev pub decreases-each : goal.decreases-each
decreases-each l = length l.rest
