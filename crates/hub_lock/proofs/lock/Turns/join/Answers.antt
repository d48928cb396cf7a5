use Rattle.std.proofs.Common.{rules, ap, sym, ◌∙◌, arith}
use Rattle.hub_lock.specs.Passes.{joining}
use Rattle.hub_lock.proofs.Splitting.{looks}
use Rattle.hub_lock.proofs.Joining.{joins, tells, tells_own, tells_numbers}
use Rattle.hub_lock.proofs.Passing.{lock_is, its_view, no_slot}
use Rattle.hub_lock.proofs.lock.Turns.join.Goals as goal

pub join_seat-requires : goal.join_seat-requires
join_seat-requires g c =
    let p = its_view _ _ _ c.p.view_is in
    let q = its_view _ _ _ c.other.view_is in (
      lock_is _ _ _ c.p.view_is ∙ (c.requires.own.0 ∙ sym c.self.view_is),
      lock_is _ _ _ c.other.view_is ∙ (c.requires.own.1 ∙ sym c.self.view_is),
      no_slot _ _ q c.requires.idle.1 c.other.invariant.5,
      search rules,
      joins _ _ _ _ _ _ _ _ (ap (λ v. v.number) p ∙ c.requires.first.0) c.p.invariant.0 c.other.invariant.0 (ap (λ v. v.turn) q ∙ c.requires.idle.1),
    )

pub load-requires : goal.load-requires
load-requires g c = (search rules, search rules, looks _ _ _ _ _ _ _ (ap (λ m. m.0.spent) c.join_seat.ensures.2 ∙ c.p.invariant.0))

pub returns-clause-joined : goal.returns-clause-joined
returns-clause-joined g c =
    let p = its_view _ _ _ c.p.view_is in
    let q = its_view _ _ _ c.other.view_is in
    tells g.T.Kept.by _ _ c.args.p.now.view c.args.other.view c.p.inside.seat.me.1 c.load.ensures.2 (c.join_seat.ensures.2 ∙ (λ i. (joining (p i) (q i), c.p.inside.seat.me.1))) c.requires.first.0

pub returns-clause-mine : goal.returns-clause-mine
returns-clause-mine g c =
    let p = its_view _ _ _ c.p.view_is in
    let q = its_view _ _ _ c.other.view_is in
    tells_own g.T.Kept.by _ _ c.args.p.now.view c.args.other.view c.p.inside.seat.me.1 c.load.ensures.2 (c.join_seat.ensures.2 ∙ (λ i. (joining (p i) (q i), c.p.inside.seat.me.1))) c.requires.first.0

pub returns-clause-numbers : goal.returns-clause-numbers
returns-clause-numbers g c =
    let p = its_view _ _ _ c.p.view_is in
    let q = its_view _ _ _ c.other.view_is in
    tells_numbers g.T.Kept.by _ _ c.args.p.now.view c.args.other.view c.p.inside.seat.me.1 c.load.ensures.2 (c.join_seat.ensures.2 ∙ (λ i. (joining (p i) (q i), c.p.inside.seat.me.1))) c.requires.first.0

pub overflow_sub-p : goal.overflow_sub-p
overflow_sub-p g c =
    let p = its_view _ _ _ c.p.view_is in
    let q = its_view _ _ _ c.other.view_is in
    let t = tells g.T.Kept.by _ _ c.args.p.now.view c.args.other.view c.p.inside.seat.me.1 c.load.ensures.2 (c.join_seat.ensures.2 ∙ (λ i. (joining (p i) (q i), c.p.inside.seat.me.1))) c.requires.first.0 in
    omega (arith, t.some, c.p.invariant.3, ap (λ v. v.live) p)
