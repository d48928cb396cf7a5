use Rattle.std.proofs.Common.{◌≡◌, map, take, drop}
use Rattle.alloy_syntax.specs.View.{paragraph_view}
use Rattle.order_lib.specs.Faults.{first_behind, first_fault}
use Rattle.order_lib.proofs.refusals.first_fault.Given as goal

abbrev pub invariant-loop-number : goal.invariant-loop-number
invariant-loop-number l =
    first_behind (map paragraph_view l.paragraphs) (take l.number l.opens) (drop l.number l.opens) ≡ first_fault (map paragraph_view l.paragraphs) l.opens
