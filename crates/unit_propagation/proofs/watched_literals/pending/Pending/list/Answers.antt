use Rattle.unit_propagation.proofs.watched_literals.pending.Pending.list.Goals as goal

pub returns-clause-marks : goal.returns-clause-marks
returns-clause-marks c = rw (← c.self.view_is) c.self.invariant.marks
