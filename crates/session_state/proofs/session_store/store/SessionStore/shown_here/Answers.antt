use Rattle.std.proofs.Common.{◌≡◌, ◌≢◌, ◌<◌, ◌==◌, ◌++◌, ◌∷◌, [], ℕ, List, Bool, true, false, cond, map, filter, take, length, get_or, slice_index_or, slice_get, Some, None, bytes_eq, All, AllPairs, Contains, IsTrue, refl, sym, ap, subst, ◌∙◌, arith}
use Rattle.std.proofs.lemmas.Result.{IfOk-weaker}
use Rattle.session_rules.specs.States.{State, ShownAt, EndedAt, shown_here, shown_at, has_ended, top_floor, HasEndedWith, IsCurrent}
use Rattle.session_state.specs.declared.session_store.floors.Found.{Found}
use Rattle.session_state.specs.declared.session_store.floors.Ended.{Ended}
use Rattle.session_state.specs.Store.Numbered.{floor_at, scenarios_at, found_there, ended_there, is_ended}
use Rattle.session_state.proofs.Store.Numbers.{found_by_number, ended_by_number, top_by_number, top_in}
use Rattle.session_state.proofs.session_store.store.SessionStore.shown_here.Goals as goal

pub returns : goal.returns
returns c =
    let kept = c.self.invariant.numbered in
    let floors = c.self.inside.floors.items in
    let above = c.self.inside.above.items in
    let number : c.top_of.result ≡ slice_index_or above 0 0 = c.top_of.ensures ∙ ap (λ ns. slice_index_or ns 0 0) c.as_slice-2.ensures.value in
    let inside : slice_index_or above 0 0 < length floors = top_in floors above kept.bottom kept.above_in in
    let top = top_by_number floors above kept.bottom in
    let found = c.self.inside.shown.items in
    let here : map (λ (x : ShownAt). x.scenario) (filter (λ (x : ShownAt). bytes_eq x.floor (slice_index_or (map (floor_at floors) above) 0 [])) (found_there floors found)) ≡ scenarios_at c.top_of.result c.as_slice.result.now =
    ap (λ f. map (λ (x : ShownAt). x.scenario) (filter (λ (x : ShownAt). bytes_eq x.floor f) (found_there floors found))) top
    ∙ found_by_number floors kept.distinct _ inside found kept.shown_in
    ∙ ap (λ n. scenarios_at n found) (sym number) ∙ ap (scenarios_at c.top_of.result) (sym c.as_slice.ensures.value) in
    rw (← c.self.view_is) (IfOk-weaker c.copies_at.result _ _ (λ copies e. e ∙ sym here) c.copies_at.ensures)
