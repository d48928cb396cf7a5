use Rattle.sat_core.proofs.Searches.{learnt_high, learnt_next}
use Rattle.sat_core.proofs.lent.next_step.Goals as goal

pub returns : goal.returns
returns c =
    let learnt = c.in_ok-step.ensures in
    let above = learnt_high c.args.trail.now c.args.conflict c.level.ensures.trail c.requires.conflict c.requires.deep c.in_ok-step.step learnt.chain learnt.empty in
    learnt_next c.args.trail.now c.args.conflict c.level.ensures.trail c.requires.conflict c.requires.deep c.in_ok-step.step learnt.chain learnt.vars learnt.given (learnt.asserting above) (learnt.novel above c.requires.closed_below)
