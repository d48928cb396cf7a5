use Rattle.std.proofs.Common.{◌+◌, ◌++◌, ◌∷◌, [], List, length, set, get_or, arith, ap, ◌∙◌}
use Rattle.std.proofs.lemmas.List.{length-map}
use Rattle.unit_propagation.specs.declared.watch_lists.lists.Slot.{Slot}
use Rattle.unit_propagation.specs.Watches.WatchState.{WatchState, with_slot}
use Rattle.unit_propagation.proofs.Watches.Moves.{slot_added}
use Rattle.unit_propagation.proofs.watch_lists.lists.WatchLists.push.Goals as goal

pub invariant_of-self : goal.invariant_of-self
invariant_of-self c =
    let kept = c.self.invariant in
    let items = c.reserve.ensures.items in
    record { lists = rw items kept.lists; few = rw items kept.few }

pub put-requires-clause-code : goal.put-requires-clause-code
put-requires-clause-code c = let in' = rw (← c.self.view_is) at c.requires.one in omega (arith, in', c.self.invariant.lists.long)

pub put-requires-clause-small : goal.put-requires-clause-small
put-requires-clause-small c =
    let room = rw (← c.self.view_is) at c.requires.room in
    omega (arith, room, ap length c.reserve.ensures.items, length-map c.self.inside.slots.items (λ (s : Slot). s.code))

pub put-requires-2-clause-code : goal.put-requires-2-clause-code
put-requires-2-clause-code c =
    let kept = c.self.invariant in
    let one_in = rw (← c.self.view_is) at c.requires.one in
    let other_in = rw (← c.self.view_is) at c.requires.other in
    let slots = c.reserve.ensures.items in
    let one = slot_added c.self.inside.slots.items c.put.new.slots.items c.self.inside.first.items c.put.new.first.items c.args.one kept.lists (omega (arith, one_in, kept.lists.long))
    (c.put.ensures.first ∙ ap (λ (s : List Slot). set c.self.inside.first.items c.args.one (length s + 1)) slots) (c.put.ensures.slots ∙ ap (λ (s : List Slot). s ++ record { code = c.args.one; next = get_or c.self.inside.first.items c.args.one 0 } ∷ []) slots) in
    omega (arith, other_in, kept.lists.long, one.2)

pub put-requires-2-clause-small : goal.put-requires-2-clause-small
put-requires-2-clause-small c =
    let kept = c.self.invariant in
    let one_in = rw (← c.self.view_is) at c.requires.one in
    let room = rw (← c.self.view_is) at c.requires.room in
    let slots = c.reserve.ensures.items in
    let one = slot_added c.self.inside.slots.items c.put.new.slots.items c.self.inside.first.items c.put.new.first.items c.args.one kept.lists (omega (arith, one_in, kept.lists.long))
    (c.put.ensures.first ∙ ap (λ (s : List Slot). set c.self.inside.first.items c.args.one (length s + 1)) slots) (c.put.ensures.slots ∙ ap (λ (s : List Slot). s ++ record { code = c.args.one; next = get_or c.self.inside.first.items c.args.one 0 } ∷ []) slots) in
    omega (arith, room, one.3, length-map c.self.inside.slots.items (λ (s : Slot). s.code))

pub invariant_of-self-2 : goal.invariant_of-self-2
invariant_of-self-2 c =
    let kept = c.self.invariant in
    let one_in = rw (← c.self.view_is) at c.requires.one in
    let other_in = rw (← c.self.view_is) at c.requires.other in
    let room = rw (← c.self.view_is) at c.requires.room in
    let slots = c.reserve.ensures.items in
    let one = slot_added c.self.inside.slots.items c.put.new.slots.items c.self.inside.first.items c.put.new.first.items c.args.one kept.lists (omega (arith, one_in, kept.lists.long))
    (c.put.ensures.first ∙ ap (λ (s : List Slot). set c.self.inside.first.items c.args.one (length s + 1)) slots) (c.put.ensures.slots ∙ ap (λ (s : List Slot). s ++ record { code = c.args.one; next = get_or c.self.inside.first.items c.args.one 0 } ∷ []) slots) in
    let both = slot_added _ c.put-2.new.slots.items _ c.put-2.new.first.items c.args.other one.0 (omega (arith, other_in, kept.lists.long, one.2)) c.put-2.ensures.first c.put-2.ensures.slots in
    record { lists = both.0; few = omega (arith, both.3, one.3, room, length-map c.self.inside.slots.items (λ (s : Slot). s.code)) }

pub returns-clause-ok : goal.returns-clause-ok
returns-clause-ok c =
    let kept = c.self.invariant in
    let one_in = rw (← c.self.view_is) at c.requires.one in
    let other_in = rw (← c.self.view_is) at c.requires.other in
    let slots = c.reserve.ensures.items in
    let one = slot_added c.self.inside.slots.items c.put.new.slots.items c.self.inside.first.items c.put.new.first.items c.args.one kept.lists (omega (arith, one_in, kept.lists.long))
    (c.put.ensures.first ∙ ap (λ (s : List Slot). set c.self.inside.first.items c.args.one (length s + 1)) slots) (c.put.ensures.slots ∙ ap (λ (s : List Slot). s ++ record { code = c.args.one; next = get_or c.self.inside.first.items c.args.one 0 } ∷ []) slots) in
    let both = slot_added _ c.put-2.new.slots.items _ c.put-2.new.first.items c.args.other one.0 (omega (arith, other_in, kept.lists.long, one.2)) c.put-2.ensures.first c.put-2.ensures.slots in
    rw (← c.self.view_is) (both.1 ∙ ap (λ (w : WatchState). with_slot w c.args.other) one.1)
