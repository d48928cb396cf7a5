use Rattle.std.proofs.Common.{arith}
use Rattle.sat_trail.proofs.SettledLiterals.{held_up_true}
use Rattle.sat_trail.proofs.settling.is_held_by.Goals as goal

pub returns-then-level_of : goal.returns-then-level_of
returns-then-level_of c = λ _.
    let seen = rw c.in-Some-true.field-0-test at c.in-Some-true.ensures in
    held_up_true _ c.args.code c.args.other c.level_of.result c.level_of-in-Some-true.result seen.0 c.level_of.ensures c.level_of-in-Some-true.ensures (omega (arith, c.if-level_of.true))
