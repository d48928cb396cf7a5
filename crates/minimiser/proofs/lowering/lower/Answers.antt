use Rattle.std.proofs.Common.{◌+◌, ◌∙◌, ℕ, List, false, true, subst, sym}
use Rattle.cnf_core.specs.declared.literal.Lit.{Lit}
use Rattle.refutation_check.specs.Assumed.{IsOpen}
use Rattle.unit_propagation.specs.declared.assignment_trail.assigned.Assigned.{Assigned}
use Rattle.unit_propagation.specs.Assignments.Trail.{IsBackTo, falses_of}
use Rattle.minimiser.proofs.LoweredTrails.{back_same, closed_of, decided_false, given_leads, more_decided, more_same, refused_leads, refuted_of}
use Rattle.minimiser.proofs.lowering.lower.Goals as goal

pub returns-then-decides-clause-more : goal.returns-then-decides-clause-more
returns-then-decides-clause-more c = more_decided c.args.trail.now c.decides.new.trail _ c.decides.ensures.forces

pub returns-then-decides-clause-valued : goal.returns-then-decides-clause-valued
returns-then-decides-clause-valued c = λ t. (false, decided_false c.args.trail.now c.decides.new.trail _ c.decides.ensures.forces)

pub returns-then-decides-clause-led : goal.returns-then-decides-clause-led
returns-then-decides-clause-led c = λ floor count low leads t.
    given_leads floor count c.args.trail.now c.decides.new.trail c.args.cell false low (λ e. absurd cc) c.decides.ensures.clauses c.decides.ensures.ordered c.decides.ensures.forces (closed_of _ _ c.decides.result c.decides.ensures.end c.if-decides.true) leads

pub decides-requires-2-clause-is_open : goal.decides-requires-2-clause-is_open
decides-requires-2-clause-is_open c =
    let absent : Lit = record { var = c.args.cell + 1; positive = false } in
    let present : Lit = record { var = c.args.cell + 1; positive = true } in
    let to = subst (λ (n : ℕ). IsBackTo n c.decides.new.trail.assigned c.back_to.new.self.assigned) c.level-level.ensures.level c.back_to.ensures.assigned in
    let same = back_same c.args.trail.now c.decides.new.trail c.back_to.new.self.assigned absent c.decides.ensures.ordered c.level-level.ensures.trail c.decides.ensures.forces to in
    subst (λ (xs : List Assigned). IsOpen (falses_of xs) present) (sym same) (c.requires.is_open.1, c.requires.is_open.0)

pub returns-clause-more : goal.returns-clause-more
returns-clause-more c =
    let absent : Lit = record { var = c.args.cell + 1; positive = false } in
    let to = subst (λ (n : ℕ). IsBackTo n c.decides.new.trail.assigned c.back_to.new.self.assigned) c.level-level.ensures.level c.back_to.ensures.assigned in
    let same = back_same c.args.trail.now c.decides.new.trail c.back_to.new.self.assigned absent c.decides.ensures.ordered c.level-level.ensures.trail c.decides.ensures.forces to in
    λ l h. more_decided c.back_to.new.self c.decides-2.new.trail _ c.decides-2.ensures.forces l (more_same c.args.trail.now c.back_to.new.self same l h)

pub returns-clause-valued : goal.returns-clause-valued
returns-clause-valued c = λ t. (true, decided_false c.back_to.new.self c.decides-2.new.trail _ c.decides-2.ensures.forces)

pub returns-clause-led : goal.returns-clause-led
returns-clause-led c =
    let absent : Lit = record { var = c.args.cell + 1; positive = false } in
    let to = subst (λ (n : ℕ). IsBackTo n c.decides.new.trail.assigned c.back_to.new.self.assigned) c.level-level.ensures.level c.back_to.ensures.assigned in
    let same = back_same c.args.trail.now c.decides.new.trail c.back_to.new.self.assigned absent c.decides.ensures.ordered c.level-level.ensures.trail c.decides.ensures.forces to in
    let refuted = refuted_of _ _ c.decides.result c.decides.ensures.end c.if-decides.false in
    λ floor count low leads t.
    refused_leads floor count c.args.trail.now c.decides.new.trail c.back_to.new.self c.decides-2.new.trail c.args.cell refuted.0 c.decides.ensures.clauses c.decides.ensures.ordered c.decides.ensures.forces refuted.1
    (c.back_to.ensures.clauses ∙ c.decides.ensures.clauses) same c.decides-2.ensures.clauses c.decides-2.ensures.ordered c.decides-2.ensures.forces (closed_of _ _ c.decides-2.result c.decides-2.ensures.end t) leads
