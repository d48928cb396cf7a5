use Rattle.std.proofs.Common.{◌≡◌, ◌∙◌, ◌++◌, ◌+◌, List, ap, length, subst}
use Rattle.cnf_core.specs.declared.literal.Lit.{Lit}
use Rattle.refutation_check.specs.Chain.{members_of}
use Rattle.sat_trail.specs.Closed.{IsClosed}
use Rattle.unit_propagation.specs.Assignments.Trail.{falses_of, level_of}
use Rattle.sat_core.proofs.Descents.{closed_no_chain, flat_at_zero}
use Rattle.sat_core.proofs.TrimmedAnswers.{used_at_once}
use Rattle.sat_core.proofs.kept.refuted_at_once.Goals as goal

pub refuted_by-requires-clause-empty : goal.refuted_by-requires-clause-empty
refuted_by-requires-clause-empty c =
    let now = c.in-Conflict.ensures in
    let none : level_of c.propagate.new.self.assigned ≡ 0 = now.level ∙ ap level_of c.in_ok-trail.ensures.assigned in
    c.in_ok-last-in-Conflict.ensures.empty (flat_at_zero c.propagate.new.self.clauses c.propagate.new.self.assigned now.trail c.in-Conflict.number now.propagated none)

pub returns-in-Conflict-clause-used : goal.returns-in-Conflict-clause-used
returns-in-Conflict-clause-used c =
    used_at_once (length c.args.f.now.clauses + length c.args.local.now + length c.args.pool.now) c.in_ok-answer-in-Conflict.answer (c.in_ok-answer-in-Conflict.ensures.learnt ∙ ap length c.new.ensures)

pub returns : goal.returns
returns c =
    let given = members_of (c.args.f.now.clauses ++ c.args.local.now) c.args.pool.now in
    let falses : List Lit = falses_of c.propagate.new.self.assigned in
    let closed : IsClosed given falses = subst (λ (cs : List (List Lit)). IsClosed cs falses) (c.in-Closed.ensures.clauses ∙ c.in_ok-trail.ensures.clauses) c.in-Closed.ensures.propagated in
    record { answer = λ hints chain. closed_no_chain given falses closed hints chain; used = tt }
