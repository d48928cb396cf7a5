use Rattle.std.proofs.Common.{◌≡◌, ◌∙◌, ℕ, Bool, List, false, get_or, set, arith, ap, sym, subst}
use Rattle.std.proofs.lemmas.List.{get_or_default}
use Rattle.unit_propagation.specs.Propagation.PendingState.{PendingState}
use Rattle.unit_propagation.specs.Propagation.Walk.{IsReady}
use Rattle.sat_trail.specs.Settling.{NeedsNoMark}
use Rattle.sat_trail.proofs.Follows.{listed_in}
use Rattle.sat_trail.proofs.Readiness.{ready_unmark}
use Rattle.sat_trail.proofs.settling.settle_at.Goals as goal

pub is_settled-requires-clause-in_range : goal.is_settled-requires-clause-in_range
is_settled-requires-clause-in_range c =
    let below = listed_in c.args.pending.now.flags c.args.pending.now.list c.args.i (get_or c.list.result.now c.args.i 0) _ c.list.ensures.marks c.requires.in_range (ap (λ (xs : List ℕ). get_or xs c.args.i 0) c.list.ensures.list) c.requires.ready.flags_long in
    omega (arith, below, c.requires.ready.long)

pub returns-then-is_settled-clause-ready : goal.returns-then-is_settled-clause-ready
returns-then-is_settled-clause-ready c =
    let marks : List ℕ = c.args.pending.now.list in
    let n : ℕ = get_or c.list.result.now c.args.i 0 in
    let same : n ≡ c.unmark-n.result = ap (λ (xs : List ℕ). get_or xs c.args.i 0) c.list.ensures.list ∙ (get_or_default marks c.args.i 0 c.unmark-n.result c.requires.in_range ∙ sym c.unmark-n.ensures.clause) in
    let settled : NeedsNoMark c.args.watches.now.codes c.args.now.now.assigned c.unmark-n.result = subst (NeedsNoMark c.args.watches.now.codes c.args.now.now.assigned) same (c.is_settled.ensures c.if-is_settled.true) in
    let flags : c.unmark-n.new.self.flags ≡ set c.args.pending.now.flags c.unmark-n.result false = ap (λ (p : PendingState). p.flags) c.unmark-n.ensures.marks in
    subst (λ (fs : List Bool). IsReady c.args.store.now c.args.watches.now c.args.now.now fs c.args.propagated) (sym flags) (ready_unmark _ _ _ _ _ _ settled c.requires.ready)
