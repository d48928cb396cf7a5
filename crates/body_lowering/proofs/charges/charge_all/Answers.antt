use Rattle.std.proofs.Common.{arith}
use Rattle.body_lowering.proofs.FormulaNodes.{expressions_turn, expressions_end, expressions_have_more}
use Rattle.body_lowering.proofs.Nodes.{in_error}
use Rattle.body_lowering.proofs.charges.charge_all.Goals as goal

pub loop-expression-preserved : goal.loop-expression-preserved
loop-expression-preserved c =
    let turn = expressions_turn c.args.expressions.now c.loop-expression.expression-index c.expression-item.result c.loop-expression-test.true c.expression-item.is in
    omega (arith, c.loop-expression.invariant, turn, c.in_ok-charge.ensures.ok)

pub returns-in_err-charge-clause-err : goal.returns-in_err-charge-clause-err
returns-in_err-charge-clause-err c =
    in_error c.from_residual.result
    (expressions_have_more c.args.expressions.now c.loop-expression.expression-index c.expression-item.result c.args.room.now.nodes c.loop-expression.room.nodes c.args.levels c.loop-expression-test.true c.expression-item.is c.loop-expression.invariant c.in_err-charge.ensures.err)

pub returns-clause-ok : goal.returns-clause-ok
returns-clause-ok c =
    let none = expressions_end c.args.expressions.now c.loop-expression.expression-index c.loop-expression-test.false in
    omega (arith, c.loop-expression.invariant, none)
