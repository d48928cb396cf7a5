use Rattle.sat_trail.proofs.trail.Trail.assigned.Goals as goal

pub returns-clause-trail : goal.returns-clause-trail
returns-clause-trail c = rw (← c.self.view_is) c.self.invariant.ready.trail

pub returns-clause-in_range : goal.returns-clause-in_range
returns-clause-in_range c = rw (← c.self.view_is) c.len.ensures.in_range
