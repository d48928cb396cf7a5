use Rattle.sat_trail.proofs.SettledLiterals.{held_up_free}
use Rattle.sat_trail.proofs.settling.is_held_up.Goals as goal

pub returns-in-None : goal.returns-in-None
returns-in-None c = λ _. held_up_free _ c.args.code c.args.other c.in-None.ensures.0

pub returns-in-Some-true : goal.returns-in-Some-true
returns-in-Some-true c = λ _. let seen = rw c.in-Some-true.field-0-test at c.in-Some-true.ensures in held_up_free _ c.args.code c.args.other seen.1
