use Rattle.rel_formula.specs.View.{expression_tree}
use Rattle.body_lowering.proofs.Nodes.{in_error, copies_have_more, copy_has_more}
use Rattle.body_lowering.proofs.charges.charge_copies.Goals as goal

pub returns-in_err-take-clause-err : goal.returns-in_err-take-clause-err
returns-in_err-take-clause-err c =
    in_error c.from_residual.result
    (copies_have_more (expression_tree c.args.e.now) c.args.count c.loop.counter c.args.room.now.nodes c.loop.room.nodes c.args.levels c.loop.invariant c.loop-test.true c.in_err-take.ensures.few)

pub returns-in_err-charge-clause-err : goal.returns-in_err-charge-clause-err
returns-in_err-charge-clause-err c =
    in_error c.from_residual-in_err-charge.result
    (copy_has_more (expression_tree c.args.e.now) c.args.count c.loop.counter c.args.room.now.nodes c.loop.room.nodes c.take.new.self.nodes c.args.levels c.loop.invariant c.loop-test.true c.in_ok-take.ensures.ok c.in_err-charge.ensures.err)
