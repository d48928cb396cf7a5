use Rattle.std.proofs.Common.{subst}
use Rattle.sat_core.specs.declared.lent.Ending.{Ending}
use Rattle.sat_core.specs.Lent.{StandsBehind}
use Rattle.sat_core.proofs.Searches.{standing_at_start}
use Rattle.sat_core.proofs.kept.settle.Goals as goal

pub returns-clause-stands : goal.returns-clause-stands
returns-clause-stands c = standing_at_start c.args.assumed.now c.args.trail.now c.back_to.new.self c.level.ensures.trail c.back_to.ensures.clauses c.back_to.ensures.assigned

pub returns-in-Found-clause-stands : goal.returns-in-Found-clause-stands
returns-in-Found-clause-stands c = subst (λ (e : Ending). StandsBehind c.args.assumed.now c.args.depth.now c.args.trail.now e) c.in-Found.is c.requires.stands
