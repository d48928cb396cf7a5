use Rattle.std.proofs.Common.{rules, Some, None, ap, refl, sym, ◌∙◌, subst}
use Rattle.hub_lock.specs.Passes.{Adds}
use Rattle.hub_lock.proofs.TurnTaking.{counts, hands_on, with_slot, with_count}
use Rattle.hub_lock.proofs.Passing.{its_view, its_slot}
use Rattle.hub_lock.proofs.lock.Turns.give.Goals as goal

pub store-requires : goal.store-requires
store-requires g c =
    let is = its_view _ _ _ c.p.view_is in
    let same = ap (λ h. h.value) c.h.view_is in
    let has = its_slot _ _ _ is c.requires.entries.2 c.p.invariant.5 in
    let at = with_slot c.p.inside.seat.me c.exchange.new.seat.me None (Some c.h.inside.value) c.exchange.ensures.3 has in
    let adds = subst (λ v. Adds g.T.Kept.by v (g.T.Kept.entries c.h.inside.value)) (sym is) (subst (λ x. Adds g.T.Kept.by c.args.p.now.view (g.T.Kept.entries x)) (sym same) c.requires.entries) in
    (search rules, search rules, counts _ _ _ _ _ _ _ c.p.inside.seat.me.0 c.h.inside.value _ at c.p.invariant.0 c.count-count.ensures adds)

pub store-requires-2 : goal.store-requires-2
store-requires-2 g c =
    let is = its_view _ _ _ c.p.view_is in
    let same = ap (λ h. h.value) c.h.view_is in
    let has = its_slot _ _ _ is c.requires.entries.2 c.p.invariant.5 in
    let at = with_slot c.p.inside.seat.me c.exchange.new.seat.me None (Some c.h.inside.value) c.exchange.ensures.3 has in
    let counted = c.store.ensures.2 c.h.inside.value (ap (λ m. m.1) at) in
    let seen = with_count g.T.Kept.by _ _ _ _ _ counted at in
    (search rules, search rules, hands_on _ _ _ _ _ _ _ _ c.h.inside.value c.self.invariant.1 seen c.p.invariant.0 refl (ap (λ v. v.base) is ∙ (c.requires.base ∙ ap (λ x. Some (g.T.Kept.base x)) (sym same))))
