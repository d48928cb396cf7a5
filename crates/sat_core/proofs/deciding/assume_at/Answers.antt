use Rattle.std.proofs.Common.{◌≡◌, ◌+◌, ap, sym, ◌∙◌, subst}
use Rattle.std.proofs.lemmas.List.Elements.{Contains-get_or}
use Rattle.unit_propagation.specs.Assignments.Trail.{ForcesMore, level_of}
use Rattle.unit_propagation.proofs.Assignments.Holding.{beq_same}
use Rattle.unit_propagation.proofs.Assignments.Trails.{level_of-push}
use Rattle.sat_trail.specs.Trailed.{Trailed}
use Rattle.sat_core.proofs.Stops.{beq_differ, value_true, value_false, value_open, clash_of_false, assumed_next, decided_first, decided_clash, decided_next}
use Rattle.sat_core.proofs.deciding.assume_at.Goals as goal

pub returns-in-Some-clause-end : goal.returns-in-Some-clause-end
returns-in-Some-clause-end c = assumed_next c.args.trail.now c.args.assumed.now c.args.place c.args.depth.now _ c.requires.so_far c.requires.place (value_true _ _ c.in-Some.value c.in-Some.ensures (beq_same _ _ c.if-value-lit.true))

pub returns-in-Some-2-clause-end : goal.returns-in-Some-2-clause-end
returns-in-Some-2-clause-end c =
    let was = c.requires.so_far in
    clash_of_false c.args.trail.now c.args.assumed.now c.args.depth.now was.ordered was.first _ (Contains-get_or c.args.assumed.now c.args.place _ c.requires.place) (value_false _ _ c.in-Some.value c.in-Some.ensures (beq_differ _ _ c.if-value-lit.false))

pub returns-in-Conflict-clause-end : goal.returns-in-Conflict-clause-end
returns-in-Conflict-clause-end c =
    let now = c.in-Conflict.ensures in
    let forces = subst (λ (t : Trailed). ForcesMore t.assigned c.propagate.new.self.assigned) c.decide.ensures now.assigned in
    let here : level_of c.decide.new.self.assigned ≡ level_of c.args.trail.now.assigned + 1 = ap (λ (t : Trailed). level_of t.assigned) c.decide.ensures ∙ level_of-push c.args.trail.now.assigned _ in
    decided_clash c.args.trail.now c.propagate.new.self c.args.assumed.now c.args.place c.args.depth.now c.level.result _ c.requires.so_far c.requires.place (value_open _ _ c.in-None.ensures) (c.level.ensures.level ∙ here)
    (now.clauses ∙ ap (λ (t : Trailed). t.clauses) c.decide.ensures) forces now.trail _ now.propagated (now.level ∙ sym c.level.ensures.level)

pub returns-in-Closed-clause-end : goal.returns-in-Closed-clause-end
returns-in-Closed-clause-end c =
    let now = c.in-Closed.ensures in
    let forces = subst (λ (t : Trailed). ForcesMore t.assigned c.propagate.new.self.assigned) c.decide.ensures now.assigned in
    let here : level_of c.decide.new.self.assigned ≡ level_of c.args.trail.now.assigned + 1 = ap (λ (t : Trailed). level_of t.assigned) c.decide.ensures ∙ level_of-push c.args.trail.now.assigned _ in
    decided_next c.args.trail.now c.propagate.new.self c.args.assumed.now c.args.place c.args.depth.now c.level.result _ c.requires.so_far c.requires.place (value_open _ _ c.in-None.ensures) (c.level.ensures.level ∙ here)
    (now.clauses ∙ ap (λ (t : Trailed). t.clauses) c.decide.ensures) forces now.trail now.propagated

pub returns-in-Conflict-clause-first : goal.returns-in-Conflict-clause-first
returns-in-Conflict-clause-first c =
    let now = c.in-Conflict.ensures in
    let forces = subst (λ (t : Trailed). ForcesMore t.assigned c.propagate.new.self.assigned) c.decide.ensures now.assigned in
    let here : level_of c.decide.new.self.assigned ≡ level_of c.args.trail.now.assigned + 1 = ap (λ (t : Trailed). level_of t.assigned) c.decide.ensures ∙ level_of-push c.args.trail.now.assigned _ in
    decided_first c.args.trail.now c.propagate.new.self c.args.assumed.now c.args.place c.args.depth.now c.level.result _ c.requires.so_far c.requires.place (value_open _ _ c.in-None.ensures) (c.level.ensures.level ∙ here)
    (now.clauses ∙ ap (λ (t : Trailed). t.clauses) c.decide.ensures) forces now.trail

pub returns-in-Closed-clause-first : goal.returns-in-Closed-clause-first
returns-in-Closed-clause-first c =
    let now = c.in-Closed.ensures in
    let forces = subst (λ (t : Trailed). ForcesMore t.assigned c.propagate.new.self.assigned) c.decide.ensures now.assigned in
    let here : level_of c.decide.new.self.assigned ≡ level_of c.args.trail.now.assigned + 1 = ap (λ (t : Trailed). level_of t.assigned) c.decide.ensures ∙ level_of-push c.args.trail.now.assigned _ in
    decided_first c.args.trail.now c.propagate.new.self c.args.assumed.now c.args.place c.args.depth.now c.level.result _ c.requires.so_far c.requires.place (value_open _ _ c.in-None.ensures) (c.level.ensures.level ∙ here)
    (now.clauses ∙ ap (λ (t : Trailed). t.clauses) c.decide.ensures) forces now.trail

pub decide-requires-clause-is_open : goal.decide-requires-clause-is_open
decide-requires-clause-is_open c = value_open _ _ c.in-None.ensures
