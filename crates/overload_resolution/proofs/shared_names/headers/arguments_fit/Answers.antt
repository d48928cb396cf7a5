use Rattle.std.proofs.Common.{arith}
use Rattle.overload_resolution.proofs.Names.Parameters.{more}
use Rattle.model_types.specs.Typing.{arguments_fit}
use Rattle.overload_resolution.proofs.shared_names.headers.arguments_fit.Goals as goal

pub returns-then-parameters-arguments : goal.returns-then-parameters-arguments
returns-then-parameters-arguments c =
    more c.args.place c.args.parameters.now c.args.arguments.now c.loop-number.number (arguments_fit c.args.place c.args.parameters.now c.args.arguments.now)
    (omega (arith, c.loop-number-test.false, c.loop-number.invariant.within)) (omega (arith, c.if-parameters-arguments.true)) c.loop-number.invariant.left
