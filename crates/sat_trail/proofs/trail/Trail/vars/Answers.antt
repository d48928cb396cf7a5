use Rattle.sat_trail.proofs.trail.Trail.vars.Goals as goal

pub returns-clause-clauses : goal.returns-clause-clauses
returns-clause-clauses c = rw (← c.self.view_is) c.len.ensures.clauses

pub returns-clause-within : goal.returns-clause-within
returns-clause-within c = rw (← c.self.view_is) c.self.invariant.ready.within
