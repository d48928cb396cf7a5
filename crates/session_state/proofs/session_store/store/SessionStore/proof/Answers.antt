use Rattle.std.proofs.Common.{◌≡◌, ◌≢◌, ◌++◌, ◌∷◌, [], ℕ, List, All, Contains, IsTrue, None, Some, slice_index_or, ap, subst, sym, ◌∙◌}
use Rattle.std.specs.Option.{MatchOption}
use Rattle.session_rules.specs.States.{has_ended, top_floor, HasEndedWith}
use Rattle.session_state.specs.declared.session_store.floors.Ended.{Ended}
use Rattle.session_state.specs.Store.Numbered.{is_ended, state_of, ended_there}
use Rattle.session_state.proofs.Store.Numbers.{answered, none_ended, ended_with}
use Rattle.session_state.proofs.session_store.store.SessionStore.proof.Goals as goal

pub returns : goal.returns
returns c =
    let t = c.self.inside in
    let number : c.top_of.result ≡ slice_index_or t.above.items 0 0 = c.top_of.ensures ∙ ap (λ ns. slice_index_or ns 0 0) c.as_slice-2.ensures.value in
    let n = slice_index_or t.above.items 0 0 in
    let s = state_of t.floors.items t.above.items t.shown.items t.ended.items t.budget in
    let none = none_ended t.floors.items t.above.items t.shown.items t.ended.items t.copies.items t.budget c.self.invariant.numbered in
    let ends = ended_with t.floors.items t.above.items t.shown.items t.ended.items t.copies.items t.budget c.self.invariant.numbered in
    let told : MatchOption c.proof_at.result (All (λ (x : Ended). x.floor ≢ n) t.ended.items) (λ p. Contains t.ended.items (record { floor = n; proof = p.now })) = rw (c.as_slice.ensures.value, number) at c.proof_at.ensures in
    rw (← c.self.view_is) (answered c.proof_at.result _ _ _ _ none (λ p. ends p.now) told)
