use Rattle.std.proofs.Common.{◌≡◌, ◌+◌, drop}
use Rattle.body_lowering.proofs.FormulaNodes.{all_nodes}
use Rattle.body_lowering.proofs.charges.+charges.Given as goal

abbrev pub invariant-charge_formulas-loop-part : goal.invariant-charge_formulas-loop-part
invariant-charge_formulas-loop-part l = l.room.nodes + all_nodes l.parts ≡ l.fn.room.nodes + all_nodes (drop l.part-index l.parts)
