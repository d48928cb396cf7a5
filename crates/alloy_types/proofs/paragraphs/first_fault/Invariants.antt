use Rattle.alloy_types.proofs.Order.{AreFine}
use Rattle.alloy_types.proofs.paragraphs.first_fault.Given as goal

abbrev pub invariant-loop-number : goal.invariant-loop-number
invariant-loop-number l = AreFine l.outcomes l.first l.count l.number
