-- A session has one replay.
use Rattle.std.proofs.Common.{◌≡◌, ℕ, List, slice_get, Some, All, sym, ◌∙◌, ap}
use Rattle.std.proofs.lemmas.List.Elements.{All-contains}
use Rattle.rel_formula.specs.Bounds.{Bounded}
use Rattle.rel_formula.proofs.Lists.{some-Contains}
use Rattle.session_rules.specs.States.{State, Start}
use Rattle.session_rules.specs.Steps.{state_after}
use Rattle.hub_state.specs.Journal.Noted.{Noted}
use Rattle.hub_state.specs.Journal.Journal.{IsReplay, IsLegal, exchanges_of}
use Rattle.hub_state.proofs.Journal.FirstEntries.{opened_once}

-- what is true of each problem is true of a key's
pub of_key : (P : Bounded → Type 0) (problems : List Bounded) → All P problems → (key : ℕ) (p : Bounded) → slice_get problems key ≡ Some p → P p
of_key P problems all key p e = All-contains P problems p all (some-Contains problems key p e)

pub one_replay : (problems : List Bounded) (journal : List Noted) → IsLegal problems journal → (by key other : ℕ) (p q : Bounded) (s t : State) →
    IsReplay problems journal by key p s → IsReplay problems journal by other q t → (key ≡ other) × (p ≡ q) × (s ≡ t)
one_replay problems journal legal by key other p q s t h k =
    let opened = opened_once problems journal legal by key h.budget other k.budget h.opened k.opened in
    let found : Some p ≡ Some q = sym h.of_key ∙ ap (slice_get problems) opened.0 ∙ k.of_key in
    let same : p ≡ q = cc in
    (opened.0, same, h.state ∙ ap (λ b. state_after (Start b) (exchanges_of by journal)) opened.1 ∙ sym k.state)
