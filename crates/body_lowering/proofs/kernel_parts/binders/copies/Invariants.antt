use Rattle.std.proofs.Common.{◌≡◌, map, take}
use Rattle.rel_formula.specs.View.{expression_tree}
use Rattle.body_lowering.proofs.kernel_parts.binders.copies.Given as goal

abbrev pub invariant-loop-expression : goal.invariant-loop-expression
invariant-loop-expression l = map expression_tree l.copies.items ≡ map expression_tree (take l.expression-index l.expressions)
