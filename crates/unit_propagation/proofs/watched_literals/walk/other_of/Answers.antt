use Rattle.std.proofs.Common.{◌≡◌, ℕ, get_or, arith, ap, ◌∙◌}
use Rattle.unit_propagation.specs.Propagation.Rule.{twin}
use Rattle.unit_propagation.proofs.Propagation.Slots.{at_slot, twin_in}
use Rattle.unit_propagation.proofs.watched_literals.walk.other_of.Goals as goal

pub twin_of-requires : goal.twin_of-requires
twin_of-requires c = let s = at_slot _ _ _ _ _ _ _ _ c.requires c.len.ensures.listed in omega (arith, s.0, c.len.ensures.len, c.len.ensures.few)

pub code-requires : goal.code-requires
code-requires c = let t = twin_in _ _ _ _ _ _ _ _ c.requires c.len.ensures.listed in omega (arith, t.0, c.twin_of.ensures)

pub returns-clause-low : goal.returns-clause-low
returns-clause-low c =
    let t = twin_in _ _ _ _ _ _ _ _ c.requires c.len.ensures.listed in
    let e : c.code.result ≡ get_or c.args.watches.now.codes (twin c.args.slot) 0 = c.code.ensures ∙ ap (λ (k : ℕ). get_or c.args.watches.now.codes k 0) c.twin_of.ensures in
    omega (arith, t.1, e)
