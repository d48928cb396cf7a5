use Rattle.std.proofs.Common.{◌≡◌, ◌-◌, get_or, arith, ap}
use Rattle.unit_propagation.specs.declared.assignment_trail.assigned.Assigned.{Assigned}
use Rattle.sat_trail.proofs.Waiting.{back_done, back_more, back_start, in_vars}
use Rattle.sat_trail.proofs.deciding.put_back_above.Goals as goal

pub undoing-init : goal.undoing-init
undoing-init c = rw c.len-n.ensures.len (back_start _ _ _ _ c.requires)

pub overflow_sub-a : goal.overflow_sub-a
overflow_sub-a c =
    let range = in_vars _ _ _ c.at-a.result (omega (arith, c.undoing-test.true, c.undoing.invariant.in_range)) c.len-n.ensures.in_range c.at-a.ensures in
    omega (arith, range.0)

pub put_back-requires : goal.put_back-requires
put_back-requires c =
    let range = in_vars _ _ _ c.at-a.result (omega (arith, c.undoing-test.true, c.undoing.invariant.in_range)) c.len-n.ensures.in_range c.at-a.ensures in
    omega (arith, range.0, range.1, c.undoing.invariant.long)

pub undoing-preserved : goal.undoing-preserved
undoing-preserved c = rw c.put_back.ensures (back_more _ _ _ _ c.undoing.n _ c.at-a.result (omega (arith, c.undoing-test.true)) c.len-n.ensures.in_range c.at-a.ensures c.undoing.invariant)

pub returns-then-a-level : goal.returns-then-a-level
returns-then-a-level c =
    λ ys to. back_done _ c.args.level _ _ _ c.undoing.n c.requires c.undoing.invariant
    (λ some d. let same : c.at-a.result.level ≡ (get_or c.args.now.now.assigned (c.undoing.n - 1) d).level = ap (λ (a : Assigned). a.level) (c.at-a.ensures d) in omega (arith, same, c.if-a-level.true)) ys to

pub returns : goal.returns
returns c = λ ys to. back_done _ c.args.level _ _ _ c.undoing.n c.requires c.undoing.invariant (λ some d. absurd (omega (arith, some, c.undoing-test.false))) ys to
