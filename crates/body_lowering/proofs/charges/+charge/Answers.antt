use Rattle.std.proofs.Common.{inl, inr, arith}
use Rattle.rel_formula.specs.View.{expression_tree}
use Rattle.body_lowering.proofs.Nodes.{in_error, some_node, some_level}
use Rattle.body_lowering.proofs.charges.+charge.Goals as goal

pub returns-then-levels-eq0-clause-err : goal.returns-then-levels-eq0-clause-err
returns-then-levels-eq0-clause-err t c = let some = some_level (expression_tree c.args.e.now) in inr (omega (arith, some, c.if-levels-eq0.true))

pub returns-in_err-take-clause-err : goal.returns-in_err-take-clause-err
returns-in_err-take-clause-err t c = let some = some_node (expression_tree c.args.e.now) in in_error c.from_residual.result (inl (omega (arith, some, c.in_err-take.ensures.few)))
