use Rattle.sat_trail.proofs.trail.Trail.decide_low.Goals as goal

pub lowest_open-requires-clause-limit : goal.lowest_open-requires-clause-limit
lowest_open-requires-clause-limit c = rw (← c.self.view_is) at c.requires.limit

pub lowest_open-requires-clause-from : goal.lowest_open-requires-clause-from
lowest_open-requires-clause-from c = rw (← c.self.view_is) at c.requires.from

pub returns-in_err-var-clause-next : goal.returns-in_err-var-clause-next
returns-in_err-var-clause-next c = rw (c.from_residual.ensures, ← c.self.view_is) c.in_err-var.ensures
