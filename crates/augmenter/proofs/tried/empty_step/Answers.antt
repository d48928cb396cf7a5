use Rattle.std.proofs.Common.{◌≡◌, ◌∙◌, ap}
use Rattle.unit_propagation.specs.Assignments.Trail.{level_of}
use Rattle.sat_core.proofs.Descents.{flat_at_zero}
use Rattle.augmenter.proofs.tried.empty_step.Goals as goal

pub returns-in-Conflict-clause-empty : goal.returns-in-Conflict-clause-empty
returns-in-Conflict-clause-empty c =
    let now = c.in-Conflict.ensures in
    let none : level_of c.propagate.new.self.assigned ≡ 0 = now.level ∙ ap level_of c.in_ok-trail.ensures.assigned in
    c.in_ok-step-in-Conflict.ensures.empty (flat_at_zero c.propagate.new.self.clauses c.propagate.new.self.assigned now.trail c.in-Conflict.number now.propagated none)
