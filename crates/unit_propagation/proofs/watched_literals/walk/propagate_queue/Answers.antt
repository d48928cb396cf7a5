use Rattle.std.proofs.Common.{◌≡◌, ◌<◌, None, false, length, get_or, arith, ap, subst}
use Rattle.cnf_core.specs.declared.literal.Lit.{Lit}
use Rattle.unit_propagation.specs.declared.assignment_trail.assigned.Assigned.{Assigned}
use Rattle.unit_propagation.specs.Propagation.Rule.{IsWatchedRight}
use Rattle.unit_propagation.proofs.Propagation.Closing.{closed_but}
use Rattle.unit_propagation.proofs.Assignments.Trails.{forces_trans}
use Rattle.unit_propagation.proofs.watched_literals.walk.propagate_queue.Goals as goal

pub propagate_one-requires-clause-gone_low : goal.propagate_one-requires-clause-gone_low
propagate_one-requires-clause-gone_low c =
    let d : Assigned = record { lit = record { var = 0; positive = false }; level = 0; reason = None } in
    let in' : c.literals.propagated < length c.literals.now.assigned = omega (arith, c.literals-test.true, c.len.ensures.len) in
    let low = c.len.ensures.in_range c.literals.propagated d in' in
    let at : c.at-a.result.lit.var ≡ (get_or c.literals.now.assigned c.literals.propagated d).lit.var = ap (λ (a : Assigned). a.lit.var) (c.at-a.ensures d) in
    let var : c.negation.result.var ≡ c.at-a.result.lit.var = ap (λ (l : Lit). l.var) c.negation.ensures in
    omega (arith, c.code_of-gone.ensures.code, low.0, at, var)

pub returns-in-Some-clause-more : goal.returns-in-Some-clause-more
returns-in-Some-clause-more c = forces_trans _ _ _ c.literals.invariant.more c.propagate_one.ensures.more

pub returns-clause-closed : goal.returns-clause-closed
returns-clause-closed c =
    let was = c.literals.invariant.ready in
    let all : c.literals.propagated ≡ length c.literals.now.assigned = omega (arith, c.literals-test.false, c.len.ensures.len, was.propagated_in) in
    closed_but _ _ _ _ c.len.ensures.consistent (subst (IsWatchedRight c.literals.watches.codes c.literals.now.assigned c.literals.pending.flags) all was.right) was.long was.watching
