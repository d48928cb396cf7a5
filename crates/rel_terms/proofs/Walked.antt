-- Walks that grow by one pair, until none is new.
use Rattle.std.proofs.Common.{◌≡◌, ◌≢◌, ℕ, zero, suc, ◌≤◌, inl, inr, List, [], ◌∷◌, All, AllPairs, Contains, length, refl, sym, ◌∙◌, arith}
use Rattle.std.specs.Prelude.{remove}
use Rattle.std.proofs.lemmas.List.Elements.{All-contains, Contains-append_cases, Contains-append_left, Contains-append_right, Contains-push_cases}
use Rattle.std.proofs.lemmas.List.Sorted.{IsPermutation-remove, Contains-permutation, length_permutation}
use Rattle.tuple_core.specs.declared.atom.Atom.{Atom}
use Rattle.tuple_core.specs.Operators.{United, Joined, Closed}
use Rattle.tuple_core.specs.Gains.{Same}
use Rattle.tuple_core.specs.Rows.{Rows, IsRows, IsSetOf}
use Rattle.tuple_core.proofs.Walks.{closed_more, has_walks}
use Rattle.rel_formula.proofs.Counts.{distinct}
use Rattle.rel_formula.proofs.Counts.{no_longer}

-- a list that is no longer than a part of it, each element of which stands in that part once, has no other element
covers : {X : Type 0} (xs ys : List X) → AllPairs (λ x y. x ≢ y) xs → ((x : X) → Contains xs x → Contains ys x) → length ys ≤ length xs → (y : X) → Contains ys y → Contains xs y
covers [] ys d has short y c = absurd (let l = c.1 in omega arith)
covers (x ∷ xs) ys d has short y c =
    let at = has x (zero, omega arith, refl) in
    let rest = remove ys at.0 in
    let moved = IsPermutation-remove ys at.0 x at.1 (sym at.2) in
    let long = length_permutation ys (x ∷ rest) moved in
    let back = covers xs rest (λ i j e p q. d (suc i) (suc j) e (omega arith) (omega arith)) (λ z h.
    elim (Contains-append_cases (x ∷ []) rest z (Contains-permutation ys (x ∷ rest) z moved (has z (Contains-append_right (x ∷ []) xs z h)))) [
      | inl first ↦ absurd (elim (Contains-push_cases [] x z first) [ inl none ↦ (let l = none.1 in omega arith) | inr same ↦ d zero (suc h.0) z (omega arith) (let l = h.1 in omega arith) (same ∙ sym h.2) ])
      | inr later ↦ later
    ]) (omega arith) in
    elim (Contains-append_cases (x ∷ []) rest y (Contains-permutation ys (x ∷ rest) y moved c)) [
      | inl first ↦ Contains-append_left (x ∷ []) xs y first
      | inr later ↦ Contains-append_right (x ∷ []) xs y (back y later)
    ]

module _ (base walks longer more : Rows) (n m : ℕ) (pairs : All (λ t. length t ≡ 2) base.rows)
    (joins : IsSetOf longer n (Joined (Contains walks.rows) (Contains base.rows))) (both : IsSetOf more m (United (Contains walks.rows) (Contains longer.rows)))
    (sound : (t : List Atom) → Contains walks.rows t → Closed (Contains base.rows) t) where
  pub walks_sound : (t : List Atom) → Contains more.rows t → Closed (Contains base.rows) t
  walks_sound t c = elim ((both.just t).0 c) [
    | inl old ↦ sound t old
    | inr new ↦
        let j = (joins.just t).0 new in
        closed_more (Contains base.rows) j.0 j.1 t (λ u h. All-contains (λ v. length v ≡ 2) base.rows u pairs h) (sound j.0 j.2) j.3 j.4
  ]

  pub walks_grow : IsRows walks → length walks.rows ≤ length more.rows
  walks_grow well = no_longer walks.rows more.rows (distinct walks.rows well.ascending) (λ t c. (both.just t).1 (inl c))

  -- where no walk is new, all are there
  pub walks_closed : IsRows walks → length more.rows ≡ length walks.rows → ((t : List Atom) → Contains base.rows t → Contains walks.rows t) → Same (Contains walks.rows) (Closed (Contains base.rows))
  walks_closed well same has = record {
    to = sound;
    back = has_walks (Contains walks.rows) (Contains base.rows) has (λ t j.
        covers walks.rows more.rows (distinct walks.rows well.ascending) (λ u c. (both.just u).1 (inl c)) (omega arith) t ((both.just t).1 (inr ((joins.just t).1 j))));
  }
