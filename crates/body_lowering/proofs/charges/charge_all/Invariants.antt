use Rattle.std.proofs.Common.{◌≡◌, ◌+◌, drop}
use Rattle.body_lowering.proofs.FormulaNodes.{each_nodes}
use Rattle.body_lowering.proofs.charges.charge_all.Given as goal

abbrev pub invariant-loop-expression : goal.invariant-loop-expression
invariant-loop-expression l = l.room.nodes + each_nodes l.expressions ≡ l.fn.room.nodes + each_nodes (drop l.expression-index l.expressions)
