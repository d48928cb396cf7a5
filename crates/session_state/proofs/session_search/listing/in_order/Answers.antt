use Rattle.std.proofs.Common.{◌≡◌, ◌⊎◌, ◌<◌, ◌≤◌, ◌+◌, ◌∙◌, ℕ, List, [], take, length, get_or, AllPairs, sym, ap, subst}
use Rattle.std.specs.List.{insert}
use Rattle.std.proofs.lemmas.List.{take_all}
use Rattle.swap_symmetry.specs.Order.{IsEarlier}
use Rattle.session_state.specs.Sessions.Listed.{AreInOrder}
use Rattle.session_state.proofs.Sessions.Ordered.{none_listed, lists_more}
use Rattle.session_state.proofs.session_search.listing.in_order.Goals as goal

pub place_of-place-requires : goal.place_of-place-requires
place_of-place-requires c = subst (AllPairs IsEarlier) (sym c.as_slice.ensures.value) c.loop-scenario.invariant.sorted

pub loop-scenario-init : goal.loop-scenario-init
loop-scenario-init c = subst (AreInOrder (take 0 c.args.scenarios.now)) (sym c.new-listed.ensures.items) (none_listed c.args.scenarios.now)

pub loop-scenario-preserved : goal.loop-scenario-preserved
loop-scenario-preserved c =
    let all : List (List ℕ) = c.args.scenarios.now in
    let i = c.loop-scenario.scenario-index in
    let listed : List (List ℕ) = c.loop-scenario.listed.items in
    let s : List ℕ = c.scenario-item.result in
    let place = c.place_of-place.result in
    let same = c.as_slice.ensures.value in
    let le : place ≤ length listed = subst (λ (xs : List (List ℕ)). place ≤ length xs) same c.place_of-place.ensures.within in
    let before = subst (λ (xs : List (List ℕ)). (k : ℕ) → k < place → IsEarlier (get_or xs k []) s) same c.place_of-place.ensures.before in
    let behind = subst (λ (xs : List (List ℕ)). (k : ℕ) → place ≤ k → k < length xs → (get_or xs k [] ≡ s) ⊎ IsEarlier s (get_or xs k [])) same c.place_of-place.ensures.behind in
    subst (AreInOrder (take (i + 1) all)) (sym (c.in_ok-insert.ensures.items ∙ ap (λ (x : List ℕ). insert listed place x) c.in_ok-copy.ensures))
    (lists_more all i listed c.loop-scenario.invariant c.requires s c.loop-scenario-test.true c.scenario-item.is place le before behind)

pub returns : goal.returns
returns c =
    let all : List (List ℕ) = c.args.scenarios.now in
    subst (λ (xs : List (List ℕ)). AreInOrder xs c.loop-scenario.listed.items) (take_all c.loop-scenario.scenario-index all c.loop-scenario-test.false) c.loop-scenario.invariant
