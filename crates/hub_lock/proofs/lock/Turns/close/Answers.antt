use Rattle.std.proofs.Common.{ap, ◌∙◌, subst}
use Rattle.hub_lock.proofs.Closing.{IsLast, closed, in_some}
use Rattle.hub_lock.proofs.Passing.{its_view}
use Rattle.hub_lock.proofs.lock.Turns.close.Goals as goal

pub unreachable-requires : goal.unreachable-requires
unreachable-requires g c =
    let p = its_view _ _ _ c.p.view_is in
    let t = closed _ _ _ _ _ _ _ _ c.close_with-closed.ensures.values.2 (ap (λ v. v.number) p ∙ c.requires.first) c.p.invariant.0 (ap (λ v. v.live) p ∙ c.requires.alone) (ap (λ v. v.turn) p ∙ c.requires.idle) _ c.in_default.ensures.value in
    absurd (c.in_default.not-Some t.0 (c.in_default.is ∙ t.1))

pub returns : goal.returns
returns g c =
    let p = its_view _ _ _ c.p.view_is in
    let t = subst (λ v. IsLast g.T.Kept.by g.T.Kept.entries g.T.Kept.base v c.in-Some.value) p
    (in_some g.T.Kept.by g.T.Kept.entries g.T.Kept.base c.p.inside.seat.me.0 c.in-Some.value
    (closed _ _ _ _ _ _ _ _ c.close_with-closed.ensures.values.2 (ap (λ v. v.number) p ∙ c.requires.first) c.p.invariant.0 (ap (λ v. v.live) p ∙ c.requires.alone) (ap (λ v. v.turn) p ∙ c.requires.idle) _ c.in-Some.ensures.value)) in
    record { entries = t.entries_are; mine = t.mine; numbers = t.numbers; base = t.base_is }
