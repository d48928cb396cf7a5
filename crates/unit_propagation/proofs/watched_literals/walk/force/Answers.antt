use Rattle.std.proofs.Common.{◌+◌, ◌/◌, arith, ap, ◌∙◌, sym, subst}
use Rattle.std.proofs.lemmas.Bool.{ltb-false}
use Rattle.refutation_check.specs.Assumed.{IsOpen}
use Rattle.unit_propagation.specs.Clauses.Codes.{literal_of}
use Rattle.unit_propagation.specs.Assignments.Trail.{falses_of}
use Rattle.unit_propagation.specs.Assignments.AssignmentState.{AssignmentState}
use Rattle.unit_propagation.specs.Propagation.Walk.{IsWalking, IsFalseBut}
use Rattle.unit_propagation.proofs.Propagation.Slots.{at_slot}
use Rattle.unit_propagation.proofs.Propagation.Steps.{walking_if, right_forced, forced, at_slot_push}
use Rattle.unit_propagation.proofs.watched_literals.walk.force.Goals as goal

pub assign-requires-clause-in_range : goal.assign-requires-clause-in_range
assign-requires-clause-in_range c =
    let is = c.literal_of.ensures ∙ ap literal_of c.other_of-other.ensures.code in
    let made = forced _ _ _ _ _ _ _ _ c.args.level c.literal_of.result c.requires.at_slot c.len-count.ensures.listed c.len-clauses.ensures.clauses is
    (subst (IsOpen (falses_of c.args.now.now.assigned)) (sym is) c.requires.is_open)
    (subst (IsFalseBut c.args.store.now (falses_of c.args.now.now.assigned) (c.args.slot / 2)) (sym is) c.requires.others) c.requires.level in
    made.1

pub mark_if-requires : goal.mark_if-requires
mark_if-requires c = let s = at_slot _ _ _ _ _ _ _ _ c.requires.at_slot c.len-count.ensures.listed in omega (arith, s.2, c.requires.at_slot.walking.flags_long)

pub returns-clause-walking : goal.returns-clause-walking
returns-clause-walking c =
    let is = c.literal_of.ensures ∙ ap literal_of c.other_of-other.ensures.code in
    let made = forced _ _ _ _ _ _ _ _ c.args.level c.literal_of.result c.requires.at_slot c.len-count.ensures.listed c.len-clauses.ensures.clauses is
    (subst (IsOpen (falses_of c.args.now.now.assigned)) (sym is) c.requires.is_open)
    (subst (IsFalseBut c.args.store.now (falses_of c.args.now.now.assigned) (c.args.slot / 2)) (sym is) c.requires.others) c.requires.level in
    let pushed = at_slot_push _ _ _ _ _ _ _ _ _ _ c.requires.at_slot made.0 made.1 in
    let walking = walking_if _ _ _ _ _ _ _ _ _ _ pushed c.len-count.ensures.listed
    (λ low. right_forced _ _ _ c.args.pending.now.flags _ _ _ _ c.args.level c.at.result.level c.literal_of.result _ c.requires.at_slot is (λ d. ap (λ a. a.level) (c.at.ensures d)) (ltb-false _ _ low))
    c.mark_if.ensures in
    subst (λ (n : AssignmentState). IsWalking c.args.store.now c.args.watches.now n c.mark_if.new.pending.flags c.args.propagated c.args.gone (c.args.at + 1)) (sym c.assign.ensures) walking
