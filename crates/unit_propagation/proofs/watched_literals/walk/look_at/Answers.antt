use Rattle.std.proofs.Common.{◌/◌, ap, ◌∙◌, subst}
use Rattle.std.specs.List.{Contains}
use Rattle.cnf_core.specs.declared.literal.Lit.{Lit}
use Rattle.unit_propagation.specs.Clauses.Codes.{literal_of}
use Rattle.unit_propagation.specs.Assignments.Trail.{falses_of, level_of}
use Rattle.unit_propagation.proofs.Assignments.Trails.{level_of-push}
use Rattle.unit_propagation.specs.Assignments.AssignmentState.{AssignmentState}
use Rattle.unit_propagation.proofs.Propagation.Slots.{at_slot}
use Rattle.unit_propagation.proofs.Propagation.Steps.{refuted}
use Rattle.unit_propagation.proofs.watched_literals.walk.look_at.Goals as goal

pub returns-else-replace-clause-stepped : goal.returns-else-replace-clause-stepped
returns-else-replace-clause-stepped c =
    let s = at_slot _ _ _ _ _ _ _ _ c.requires.at_slot c.len.ensures.listed in
    let seen = rw c.in-Some-false.field-0-test at c.in-Some-false.ensures in
    let is_false = subst (λ (k : Lit). Contains (falses_of c.args.now.now.assigned) k) (ap literal_of c.other_of-other.ensures.code) seen.0 in
    (c.replace.ensures.walking, refuted c.args.store.now (falses_of c.args.now.now.assigned) (c.args.slot / 2) _ s.2 (c.replace.ensures.others c.if-replace.false) is_false)

pub returns-else-replace-2-clause-level : goal.returns-else-replace-2-clause-level
returns-else-replace-2-clause-level c = ap (λ (n : AssignmentState). level_of n.assigned) c.force.ensures.more ∙ (level_of-push c.args.now.now.assigned _ ∙ c.requires.level)
