use Rattle.std.proofs.Common.{arith, sym, ◌∙◌}
use Rattle.unit_propagation.proofs.Assignments.Trails.{forces_trans}
use Rattle.sat_trail.proofs.rounds.propagate_all.Goals as goal

pub round-requires-clause-level : goal.round-requires-clause-level
round-requires-clause-level c = c.level-level.ensures ∙ sym c.rounds.invariant.level

pub returns-in-Conflict-clause-propagated : goal.returns-in-Conflict-clause-propagated
returns-in-Conflict-clause-propagated c = c.in-Conflict.ensures.round

pub returns-in-Conflict-clause-more : goal.returns-in-Conflict-clause-more
returns-in-Conflict-clause-more c = forces_trans _ _ _ c.rounds.invariant.more c.round.ensures.more

pub returns-in-Closed-clause-propagated : goal.returns-in-Closed-clause-propagated
returns-in-Closed-clause-propagated c = c.in-Closed.ensures.round

pub returns-in-Closed-clause-more : goal.returns-in-Closed-clause-more
returns-in-Closed-clause-more c = forces_trans _ _ _ c.rounds.invariant.more c.round.ensures.more

pub rounds-preserved : goal.rounds-preserved
rounds-preserved c =
    let was = c.rounds.invariant in
    record { ready = c.round.ensures.ready; vars = c.round.ensures.vars ∙ was.vars; more = forces_trans _ _ _ was.more c.round.ensures.more; level = c.round.ensures.level ∙ was.level }

pub rounds-smaller : goal.rounds-smaller
rounds-smaller c = omega (arith, c.in-Grown.ensures.round, c.len.ensures.few, c.len.ensures.len, c.round.ensures.vars)
