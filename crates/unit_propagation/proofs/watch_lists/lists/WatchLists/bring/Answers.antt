use Rattle.std.proofs.Common.{◌≡◌, ◌-◌, ◌+◌, ℕ, List, length, set, arith, ap, ◌∙◌, length-set}
use Rattle.unit_propagation.proofs.Watches.Links.{lists_found}
use Rattle.unit_propagation.proofs.Watches.Moves.{slot_in, lists_brought, codes_brought, watched_equal, unlinked_long, relinked}
use Rattle.unit_propagation.proofs.watch_lists.lists.WatchLists.bring.Goals as goal

pub unlink-requires-clause-from : goal.unlink-requires-clause-from
unlink-requires-clause-from c =
    let from_in = rw (← c.self.view_is) at c.requires.from_in_range in omega (arith, from_in, c.self.invariant.lists.long)

pub unlink-requires-clause-slot : goal.unlink-requires-clause-slot
unlink-requires-clause-slot c =
    slot_in _ _ _ c.self.invariant.lists c.args.from c.args.at _ (rw (← c.self.view_is) at c.requires.from_in_range) (rw (← c.self.view_is) at c.requires.at_in_range) (rw (← c.self.view_is) at c.requires.slot)

pub unlink-requires-clause-before : goal.unlink-requires-clause-before
unlink-requires-clause-before c =
    λ some. let at_in = rw (← c.self.view_is) at c.requires.at_in_range in
    let before = rw (← c.self.view_is) at c.requires.before in
    slot_in _ _ _ c.self.invariant.lists c.args.from (c.args.at - 1) _ (rw (← c.self.view_is) at c.requires.from_in_range) (omega (arith, at_in)) (before some)

pub relink-requires-clause-slot : goal.relink-requires-clause-slot
relink-requires-clause-slot c =
    let in' = slot_in _ _ _ c.self.invariant.lists c.args.from c.args.at _ (rw (← c.self.view_is) at c.requires.from_in_range) (rw (← c.self.view_is) at c.requires.at_in_range) (rw (← c.self.view_is) at c.requires.slot) in
    let long = unlinked_long c.self.inside.slots.items c.self.inside.first.items c.args.from c.args.at c.args.before c.args.slot in
    let same = ap length c.unlink.ensures.slots in
    omega (arith, in', same, long.0)

pub relink-requires-clause-small : goal.relink-requires-clause-small
relink-requires-clause-small c =
    let in' = slot_in _ _ _ c.self.invariant.lists c.args.from c.args.at _ (rw (← c.self.view_is) at c.requires.from_in_range) (rw (← c.self.view_is) at c.requires.at_in_range) (rw (← c.self.view_is) at c.requires.slot) in
    omega (arith, in', c.self.invariant.few)

pub invariant_of-self : goal.invariant_of-self
invariant_of-self c =
    let are = c.self.invariant.lists in
    let from_in = rw (← c.self.view_is) at c.requires.from_in_range in
    let to_in = rw (← c.self.view_is) at c.requires.to_in_range in
    let heads = c.relink.ensures.first ∙ ap (λ (f : List ℕ). set f c.args.to (c.args.slot + 1)) c.unlink.ensures.first in
    let news = c.relink.ensures.slots ∙ relinked _ _ _ _ c.args.slot c.args.to c.unlink.ensures.slots c.unlink.ensures.first in
    let brought = lists_brought _ _ _ c.args.from c.args.at c.args.before c.args.slot c.args.to are (omega (arith, from_in, are.long)) (omega (arith, to_in, are.long)) c.requires.other (rw (← c.self.view_is) at c.requires.at_in_range) (rw (← c.self.view_is) at c.requires.slot) (rw (← c.self.view_is) at c.requires.before) _ _ heads news in
    let long = unlinked_long c.self.inside.slots.items c.self.inside.first.items c.args.from c.args.at c.args.before c.args.slot in
    let wide : length c.relink.new.slots.items ≡ length c.self.inside.slots.items = ap length news ∙ (length-set _ c.args.slot _ ∙ long.0) in
    record { lists = rw (lists_found _ _ _ brought) brought; few = omega (arith, wide, c.self.invariant.few) }

pub returns : goal.returns
returns c =
    let are = c.self.invariant.lists in
    let from_in = rw (← c.self.view_is) at c.requires.from_in_range in
    let to_in = rw (← c.self.view_is) at c.requires.to_in_range in
    let heads = c.relink.ensures.first ∙ ap (λ (f : List ℕ). set f c.args.to (c.args.slot + 1)) c.unlink.ensures.first in
    let news = c.relink.ensures.slots ∙ relinked _ _ _ _ c.args.slot c.args.to c.unlink.ensures.slots c.unlink.ensures.first in
    let brought = lists_brought _ _ _ c.args.from c.args.at c.args.before c.args.slot c.args.to are (omega (arith, from_in, are.long)) (omega (arith, to_in, are.long)) c.requires.other (rw (← c.self.view_is) at c.requires.at_in_range) (rw (← c.self.view_is) at c.requires.slot) (rw (← c.self.view_is) at c.requires.before) _ _ heads news in
    rw (← c.self.view_is) (watched_equal _ _ _ _ (codes_brought _ _ c.args.from c.args.at c.args.before c.args.slot c.args.to _ news) (lists_found _ _ _ brought))
