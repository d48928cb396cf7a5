use Rattle.std.proofs.Common.{ap, ◌∙◌}
use Rattle.std.proofs.lemmas.List.{get_or_read}
use Rattle.unit_propagation.specs.declared.watch_lists.lists.Slot.{Slot}
use Rattle.unit_propagation.proofs.Watches.Moves.{next_in, slot_in}
use Rattle.unit_propagation.proofs.watch_lists.lists.WatchLists.next.Goals as goal

pub returns : goal.returns
returns c =
    rw (← c.self.view_is) (λ code k h in' is.
    let are = c.self.invariant.lists in
    let read = get_or_read _ _ _ (slot_in _ _ _ are code k c.args.slot h in' is) c.index.ensures (record { code = 0; next = 0 }) in
    ap (λ (s : Slot). s.next) read ∙ next_in _ _ _ are code k c.args.slot h in' is)
