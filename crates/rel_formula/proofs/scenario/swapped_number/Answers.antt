use Rattle.rel_formula.proofs.Swapped.{never_missing}
use Rattle.rel_formula.proofs.scenario.swapped_number.Goals as goal

pub returns-in-Some : goal.returns-in-Some
returns-in-Some c = (c.swapped.ensures c.in-Some.image).0 c.in-Some.is

pub returns-in-None : goal.returns-in-None
returns-in-None c = absurd (never_missing c.args.problem.now c.args.first c.args.second c.args.number c.swapped.result c.requires.number c.requires.kept c.swapped.ensures c.in-None.is)
