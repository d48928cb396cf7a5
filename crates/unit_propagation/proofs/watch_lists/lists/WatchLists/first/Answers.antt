use Rattle.std.proofs.Common.{◌≡◌, ◌<◌, ℕ, List, length, arith, ap, ◌∙◌, sym}
use Rattle.std.proofs.lemmas.List.{get_or_read}
use Rattle.unit_propagation.specs.Watches.Linked.{lists_of}
use Rattle.unit_propagation.specs.Watches.WatchState.{WatchState, list_at, link_at}
use Rattle.unit_propagation.proofs.Watches.Links.{linked_at}
use Rattle.unit_propagation.proofs.watch_lists.lists.WatchLists.first.Goals as goal

pub returns : goal.returns
returns c =
    let are = c.self.invariant.lists in
    let lists : lists_of c.self.inside.slots.items c.self.inside.first.items ≡ c.args.self.now.lists = ap (λ (w : WatchState). w.lists) c.self.view_is in
    let long = ap length lists in
    let in' : c.args.code < length c.self.inside.first.items = omega (arith, long, are.long, c.requires) in
    get_or_read _ _ _ in' c.index.ensures 0 ∙ (sym (linked_at _ _ _ (are.linked c.args.code in')) ∙ ap (λ (ls : List (List ℕ)). link_at (list_at ls c.args.code) 0) lists)
