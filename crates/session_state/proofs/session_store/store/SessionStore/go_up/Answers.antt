use Rattle.std.proofs.Common.{◌≡◌, ◌≢◌, ◌<◌, ◌≤◌, ◌==◌, ◌++◌, ◌∷◌, [], ℕ, List, Bool, true, false, cond, map, filter, take, length, get_or, slice_index_or, slice_get, Some, None, bytes_eq, All, AllPairs, Contains, IsTrue, refl, sym, ap, subst, ◌∙◌, arith}
use Rattle.std.specs.List.{list_any}
use Rattle.std.proofs.lemmas.List.Elements.{All-weaker, All-cons}
use Rattle.session_rules.specs.States.{State, ShownAt, EndedAt, shown_here, shown_at, has_ended, top_floor, HasEndedWith, IsCurrent}
use Rattle.session_state.specs.declared.session_store.floors.Found.{Found}
use Rattle.session_state.specs.declared.session_store.floors.Ended.{Ended}
use Rattle.session_state.specs.Store.Numbered.{floor_at, scenarios_at, found_there, ended_there, is_ended, state_of}
use Rattle.session_state.proofs.Store.Numbers.{found_by_number, ended_by_number, top_by_number, top_in, above_stays, found_stays, ended_stays, length_grows}
use Rattle.std.proofs.lemmas.Option.{get_or_from_slice_get}
use Rattle.session_state.proofs.session_store.store.SessionStore.go_up.Goals as goal

pub returns-clause-state : goal.returns-clause-state
returns-clause-state c =
    let kept = c.self.invariant.numbered in
    let floors = c.self.inside.floors.items in
    let above = c.self.inside.above.items in
    let ended = c.self.inside.ended.items in
    let grown = c.enter-number.ensures.grown in
    let new = c.enter-number.new.floors.items in
    let top : floor_at new c.enter-number.result ≡ c.args.floor = get_or_from_slice_get new c.enter-number.result c.args.floor [] c.enter-number.ensures.number in
    let shown = found_stays floors new c.args.floor grown c.self.inside.shown.items kept.shown_in in
    let ends = ended_stays floors new c.args.floor grown ended kept.ended_in in
    let up = above_stays floors new c.args.floor grown above kept.above_in in
    rw (c.put_first.ensures, top, shown, ends, up, ← c.self.view_is) refl

pub returns-clause-copies : goal.returns-clause-copies
returns-clause-copies c =
    rw (← c.self.view_is) (found_stays c.self.inside.floors.items c.enter-number.new.floors.items c.args.floor c.enter-number.ensures.grown c.self.inside.copies.items c.self.invariant.numbered.copies_in)
