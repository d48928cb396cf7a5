use Rattle.std.proofs.Common.{◌≡◌, ◌⊎◌, ◌↔◌, inl, inr, ◌<◌, ◌≤◌, ℕ, List, [], length, get_or, All, AllPairs, Contains, sym, subst, arith}
use Rattle.tuple_core.proofs.Ascending.{insert_contains}
use Rattle.rel_formula.specs.Instance.{IsScenario}
use Rattle.swap_symmetry.specs.Order.{IsEarlier}
use Rattle.renaming_classes.proofs.Listing.{sorted_with, found_there}
use Rattle.renaming_classes.proofs.least_members.add.Goals as goal

pub place_of-place-requires-clause-found : goal.place_of-place-requires-clause-found
place_of-place-requires-clause-found c = subst (All (IsScenario c.args.problem.now)) (sym c.as_slice.ensures.value) c.requires.found

pub place_of-place-requires-clause-sorted : goal.place_of-place-requires-clause-sorted
place_of-place-requires-clause-sorted c = subst (AllPairs IsEarlier) (sym c.as_slice.ensures.value) c.requires.sorted

pub returns-then-is_at : goal.returns-then-is_at
returns-then-is_at c =
    let xs : List (List ℕ) = c.args.found.now.items in
    let s : List ℕ = c.args.member in
    let place = c.place_of-place.result in
    let h = subst (λ (ys : List (List ℕ)). (place < length ys) × (IsEarlier s (get_or ys place []) → ⊥)) c.as_slice-2.ensures.value (c.is_at.ensures.there c.if-is_at.true) in
    let behind = subst (λ (ys : List (List ℕ)). (k : ℕ) → place ≤ k → k < length ys → IsEarlier (get_or ys k []) s → ⊥) c.as_slice.ensures.value c.place_of-place.ensures.behind in
    let there : Contains xs s = found_there xs place s h.0 (c.requires.found place [] h.0).rising c.requires.member.rising (behind place (omega arith) h.0) h.1 in
    record {
      members = λ t. (λ d. inl d, λ d. elim d [ inl old ↦ old | inr same ↦ subst (Contains xs) (sym same) there ]);
      sorted = c.requires.sorted;
    }

pub returns : goal.returns
returns c =
    let xs : List (List ℕ) = c.args.found.now.items in
    let s : List ℕ = c.args.member in
    let place = c.place_of-place.result in
    let same = c.as_slice.ensures.value in
    let le : place ≤ length xs = subst (λ (ys : List (List ℕ)). place ≤ length ys) same c.place_of-place.ensures.within in
    let before = subst (λ (ys : List (List ℕ)). (k : ℕ) → k < place → IsEarlier (get_or ys k []) s) same c.place_of-place.ensures.before in
    let later = subst (λ (ys : List (List ℕ)). place < length ys → IsEarlier s (get_or ys place [])) c.as_slice-2.ensures.value (c.is_at.ensures.other c.if-is_at.false) in
    let new = c.in_ok-insert.ensures.items in
    record {
      members = λ t. subst (λ (ys : List (List ℕ)). Contains ys t ↔ (Contains xs t ⊎ (t ≡ s))) (sym new) (insert_contains xs place s t);
      sorted = subst (AllPairs IsEarlier) (sym new) (sorted_with xs place s c.requires.sorted le before later);
    }
