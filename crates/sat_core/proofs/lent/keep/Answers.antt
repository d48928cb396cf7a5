use Rattle.std.proofs.Common.{◌++◌, ◌∷◌, [], ◌∙◌, ap}
use Rattle.refutation_check.specs.declared.log.Step.{Step}
use Rattle.sat_core.proofs.Searches.{kept_next}
use Rattle.sat_core.proofs.lent.keep.Goals as goal

pub back_level-level-requires-clause-asserting : goal.back_level-level-requires-clause-asserting
back_level-level-requires-clause-asserting c = rw c.lits.ensures.lits c.requires.step.asserting

pub back_level-level-requires-clause-vars : goal.back_level-level-requires-clause-vars
back_level-level-requires-clause-vars c = rw c.lits.ensures.lits c.requires.step.within

pub returns-clause-log : goal.returns-clause-log
returns-clause-log c = c.in_ok-push.ensures.ok ∙ ap (λ (s : Step). c.args.log.now ++ s ∷ []) c.in_ok-copy.ensures

pub returns-clause-trail : goal.returns-clause-trail
returns-clause-trail c =
    let closed = rw c.lits.ensures.lits at c.back_level-level.ensures.closed in
    kept_next c.args.trail.now c.back_to.new.self c.add.new.self c.args.step c.back_level-level.result c.in_ok-add.ensures.ok c.back_to.ensures.vars c.back_to.ensures.clauses c.back_to.ensures.assigned (closed c.requires.closed_below c.back_to.new.self.assigned c.back_to.ensures.assigned)
