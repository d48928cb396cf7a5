use Rattle.std.proofs.Common.{◌≡◌, ◌++◌, ◌∷◌, [], ℕ, List, cond, slice_index_or, ap, ◌∙◌}
use Rattle.session_state.specs.declared.session_store.floors.Ended.{Ended}
use Rattle.session_state.specs.Store.Numbered.{is_ended, state_of}
use Rattle.session_state.proofs.Store.Numbers.{end_is}
use Rattle.session_state.proofs.session_store.store.SessionStore.end.Goals as goal

pub returns-clause-state : goal.returns-clause-state
returns-clause-state c =
    let t = c.self.inside in
    let with_end : ℕ → List Ended = λ n. cond (is_ended n t.ended.items) t.ended.items (t.ended.items ++ record { floor = n; proof = c.args.proof } ∷ []) in
    let number : c.top_of-floor.result ≡ slice_index_or t.above.items 0 0 = c.top_of-floor.ensures ∙ ap (λ ns. slice_index_or ns 0 0) c.as_slice.ensures.value in
    rw (← c.self.view_is) (
    ap (λ (xs : List Ended). state_of t.floors.items t.above.items t.shown.items xs t.budget) (c.push_end.ensures ∙ ap with_end number)
    ∙ end_is t.floors.items t.above.items t.shown.items t.ended.items t.copies.items t.budget c.self.invariant.numbered c.args.proof)
