use Rattle.std.proofs.Common.{length, arith}
use Rattle.sat_trail.proofs.Waiting.{code_within}
use Rattle.sat_trail.proofs.deciding.raise_in.Goals as goal

pub overflow_sub-place : goal.overflow_sub-place
overflow_sub-place c =
    let var = code_within c.args.codes.now (length c.args.order.now.activities) c.loop-code.code-index c.requires.vars c.loop-code-test.true in
    omega (arith, var.0)

pub bounds-met_by-place : goal.bounds-met_by-place
bounds-met_by-place c =
    let var = code_within c.args.codes.now (length c.args.order.now.activities) c.loop-code.code-index c.requires.vars c.loop-code-test.true in
    omega (arith, var.0, var.1, c.loop-code.auto.met_by, c.requires.long)

pub bounds-met_by-place-then-met_by-place : goal.bounds-met_by-place-then-met_by-place
bounds-met_by-place-then-met_by-place c =
    let var = code_within c.args.codes.now (length c.args.order.now.activities) c.loop-code.code-index c.requires.vars c.loop-code-test.true in
    omega (arith, var.0, var.1, c.loop-code.auto.met_by, c.requires.long)

pub raise-requires : goal.raise-requires
raise-requires c =
    let var = code_within c.args.codes.now (length c.args.order.now.activities) c.loop-code.code-index c.requires.vars c.loop-code-test.true in
    omega (arith, var.0, var.1, c.loop-code.invariant.long)
