use Rattle.std.proofs.Common.{refl}
use Rattle.overload_resolution.proofs.Expressions.Chaining.{bracketed_turn, bracketed_end}
use Rattle.overload_resolution.proofs.expression_types.brackets.brackets_type.Goals as goal

pub loop-argument-init : goal.loop-argument-init
loop-argument-init c = λ x ys h k. (x, ys, h, k, refl)

pub loop-argument-preserved : goal.loop-argument-preserved
loop-argument-preserved c =
    bracketed_turn c.args.head c.args.arguments.now c.loop-argument.argument-index c.loop-argument.all c.argument-item.result c.in_ok-all.all
    c.loop-argument-test.true c.argument-item.is c.in_ok-all.ensures c.loop-argument.invariant

pub returns : goal.returns
returns c = bracketed_end c.args.head c.args.arguments.now c.loop-argument.argument-index c.loop-argument.all c.loop-argument-test.false c.loop-argument.invariant
