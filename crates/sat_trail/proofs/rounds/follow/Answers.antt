use Rattle.std.proofs.Common.{length, arith, ap, ◌∙◌, sym, subst, inl, inr, refl, length-append}
use Rattle.unit_propagation.specs.Assignments.AssignmentState.{AssignmentState}
use Rattle.unit_propagation.specs.Assignments.Trail.{level_of}
use Rattle.unit_propagation.proofs.Assignments.Trails.{level_of-push}
use Rattle.unit_propagation.specs.Propagation.Walk.{IsReady}
use Rattle.sat_trail.proofs.Follows.{looked_clause, looked_range, looked_falsified, looked_quiet, looked_unit}
use Rattle.sat_trail.proofs.Readiness.{ready_push}
use Rattle.sat_trail.proofs.rounds.follow.Goals as goal

pub look-requires-clause-clause : goal.look-requires-clause-clause
look-requires-clause-clause c = looked_clause _ _ _ _ _ _ c.args.n c.codes.result.now c.requires.ready c.len.ensures.clauses c.requires.in_range c.codes.ensures

pub look-requires-clause-in_range : goal.look-requires-clause-in_range
look-requires-clause-in_range c = looked_range _ _ _ _ _ _ c.args.n c.codes.result.now c.requires.ready c.len.ensures.clauses c.requires.in_range c.codes.ensures

pub assign-requires-clause-is_open : goal.assign-requires-clause-is_open
assign-requires-clause-is_open c = (c.in-Unit.ensures.not_false, c.in-Unit.ensures.not_true)

pub assign-requires-clause-in_range : goal.assign-requires-clause-in_range
assign-requires-clause-in_range c =
    let made = looked_unit _ _ _ _ _ _ c.args.n c.codes.result.now c.requires.ready c.len.ensures.clauses c.requires.in_range c.codes.ensures c.in-Unit.lit c.args.level c.in-Unit.ensures c.requires.level in
    made.1

pub returns-in-Falsified-clause-followed : goal.returns-in-Falsified-clause-followed
returns-in-Falsified-clause-followed c = looked_falsified _ _ _ _ _ _ c.args.n c.codes.result.now c.requires.ready c.len.ensures.clauses c.requires.in_range c.codes.ensures c.in-Falsified.ensures

pub returns-in-Neither-clause-followed : goal.returns-in-Neither-clause-followed
returns-in-Neither-clause-followed c = inr (refl, looked_quiet _ _ _ _ _ _ c.args.n c.codes.result.now c.requires.ready c.len.ensures.clauses c.requires.in_range c.codes.ensures c.in-Neither.ensures)

pub returns-in-Unit-clause-ready : goal.returns-in-Unit-clause-ready
returns-in-Unit-clause-ready c =
    let made = looked_unit _ _ _ _ _ _ c.args.n c.codes.result.now c.requires.ready c.len.ensures.clauses c.requires.in_range c.codes.ensures c.in-Unit.lit c.args.level c.in-Unit.ensures c.requires.level in
    subst (λ (a : AssignmentState). IsReady c.args.store.now c.args.watches.now a c.args.pending.now.flags c.args.propagated) (sym c.assign.ensures) (ready_push _ _ _ _ _ _ _ c.requires.ready made.0)

pub returns-in-Unit-clause-followed : goal.returns-in-Unit-clause-followed
returns-in-Unit-clause-followed c =
    let long = ap (λ (a : AssignmentState). length a.assigned) c.assign.ensures ∙ length-append c.args.now.now.assigned _ in
    inl (omega (arith, long))

pub returns-in-Unit-clause-level : goal.returns-in-Unit-clause-level
returns-in-Unit-clause-level c = ap (λ (a : AssignmentState). level_of a.assigned) c.assign.ensures ∙ (level_of-push c.args.now.now.assigned _ ∙ c.requires.level)
