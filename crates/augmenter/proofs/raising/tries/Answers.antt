use Rattle.std.proofs.Common.{ℕ, not, List, subst, sym}
use Rattle.cnf_core.specs.declared.literal.Lit.{Lit}
use Rattle.cnf_core.specs.Literal.{negation_of}
use Rattle.refutation_check.specs.Assumed.{IsOpen}
use Rattle.unit_propagation.specs.declared.assignment_trail.assigned.Assigned.{Assigned}
use Rattle.unit_propagation.specs.Assignments.Trail.{IsBackTo, falses_of}
use Rattle.minimiser.proofs.LoweredTrails.{back_same, decided_false, more_decided, more_same}
use Rattle.augmenter.proofs.RaisedTrails.{open_other, value_behind}
use Rattle.augmenter.proofs.raising.tries.Goals as goal

pub returns-then-decides-clause-more : goal.returns-then-decides-clause-more
returns-then-decides-clause-more c = more_decided c.args.trail.now c.decides.new.trail _ c.decides.ensures.forces

pub returns-then-decides-clause-valued : goal.returns-then-decides-clause-valued
returns-then-decides-clause-valued c = λ t. (c.args.lit.positive, value_behind c.decides.new.trail c.args.lit c.requires.from_one (decided_false c.args.trail.now c.decides.new.trail _ c.decides.ensures.forces))

pub decides-requires-2-clause-is_open : goal.decides-requires-2-clause-is_open
decides-requires-2-clause-is_open c =
    let lit : Lit = c.args.lit in
    let to = subst (λ (n : ℕ). IsBackTo n c.decides.new.trail.assigned c.back_to.new.self.assigned) c.level-level.ensures.level c.back_to.ensures.assigned in
    let same = back_same c.args.trail.now c.decides.new.trail c.back_to.new.self.assigned lit c.decides.ensures.ordered c.level-level.ensures.trail c.decides.ensures.forces to in
    subst (λ (xs : List Assigned). IsOpen (falses_of xs) (negation_of lit)) (sym same) (open_other (falses_of c.args.trail.now.assigned) lit c.requires.is_open)

pub returns-clause-more : goal.returns-clause-more
returns-clause-more c =
    let lit : Lit = c.args.lit in
    let to = subst (λ (n : ℕ). IsBackTo n c.decides.new.trail.assigned c.back_to.new.self.assigned) c.level-level.ensures.level c.back_to.ensures.assigned in
    let same = back_same c.args.trail.now c.decides.new.trail c.back_to.new.self.assigned lit c.decides.ensures.ordered c.level-level.ensures.trail c.decides.ensures.forces to in
    λ l h. more_decided c.back_to.new.self c.decides-2.new.trail _ c.decides-2.ensures.forces l (more_same c.args.trail.now c.back_to.new.self same l h)

pub returns-clause-valued : goal.returns-clause-valued
returns-clause-valued c = λ t. (not c.args.lit.positive, value_behind c.decides-2.new.trail (negation_of c.args.lit) c.requires.from_one (decided_false c.back_to.new.self c.decides-2.new.trail _ c.decides-2.ensures.forces))
