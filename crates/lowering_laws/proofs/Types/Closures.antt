-- The pairs that a closure may have.
use Rattle.std.proofs.Common.{◌≡◌, ◌⊎◌, inl, inr, ℕ, zero, List, [], ◌∷◌, ◌++◌, flat_map, Contains, true, refl, sym, subst, arith}
use Rattle.std.proofs.lemmas.List.Elements.{Contains-append_left, Contains-append_right}
use Rattle.tuple_core.specs.declared.atom.Atom.{Atom}
use Rattle.tuple_core.specs.Operators.{Pred, Walk, Closed}
use Rattle.rel_formula.proofs.OpenCells.{cons_cases, has_filter}
use Rattle.model_sizes.specs.declared.size.Size.{Size}
use Rattle.model_types.specs.Bounding.{Lists, has, end_of, start_of, joined, joins, starting_in, ending_in, through}
use Rattle.lowering_rules.specs.Relations.{IsPlaceOf, InProduct, InProducts}
use Rattle.lowering_laws.proofs.Types.Places.{flat_has, is_had, joined_at, place_once, is_pair}

-- ---- ways from signature to signature

-- from x through these to y
abbrev Steps : (ℕ → ℕ → Type 0) → ℕ → List ℕ → ℕ → Type 0
Steps R x [] y = R x y
Steps R x (m ∷ ms) y = R x m × Steps R m ms y

steps_to : (R S : ℕ → ℕ → Type 0) → ((x y : ℕ) → R x y → S x y) → (x : ℕ) (ms : List ℕ) (y : ℕ) → Steps R x ms y → Steps S x ms y
steps_to R S to x [] y s = to x y s
steps_to R S to x (m ∷ ms) y s = (to x m s.0, steps_to R S to m ms y s.1)

abbrev Has : Lists → ℕ → ℕ → Type 0
Has a x y = Contains a (x ∷ y ∷ [])

-- at once, or by way of k
abbrev By : ℕ → Lists → ℕ → ℕ → Type 0
By k a x y = Has a x y ⊎ (Has a x k × Has a k y)

straight : (k : ℕ) (a : Lists) (y : ℕ) → By k a k y → Has a k y
straight k a y h = elim h [ inl s ↦ s | inr t ↦ t.1 ]

abbrev Among : List ℕ → List ℕ → Type 0
Among ks [] = Unit {0}
Among ks (m ∷ ms) = Contains ks m × Among ks ms

-- a way through the others
record Around (k : ℕ) (ks : List ℕ) (a : Lists) (x y : ℕ) : Type 0 where
  way : List ℕ
  among : Among ks way
  steps : Steps (By k a) x way y

over : (k : ℕ) (ks : List ℕ) (a : Lists) (x y : ℕ) (way : List ℕ) → Has a x k → Among ks way → Steps (By k a) k way y → Steps (By k a) x way y
over k ks a x y [] h among s = inr (h, straight k a y s)
over k ks a x y (m ∷ ms) h among s = (inr (h, straight k a m s.0), s.1)

around : (k : ℕ) (ks : List ℕ) (a : Lists) (x : ℕ) (ms : List ℕ) (y : ℕ) → Among (k ∷ ks) ms → Steps (Has a) x ms y → Around k ks a x y
around k ks a x [] y h s = record { way = []; among = tt; steps = inl s }
around k ks a x (m ∷ ms) y h s = let rest = around k ks a m ms y h.1 s.1 in elim (cons_cases k ks m h.0) [
  | inl same ↦
      let to_k : Has a x k = subst (Has a x) (sym same) s.0 in
      let from_k : Steps (By k a) k rest.way y = subst (λ z. Steps (By k a) z rest.way y) (sym same) rest.steps in
      record { way = rest.way; among = rest.among; steps = over k ks a x y rest.way to_k rest.among from_k }
  | inr there ↦ record { way = m ∷ rest.way; among = (there, rest.among); steps = (inl s.0, rest.steps) }
]

-- what `through` has after one signature
abbrev after : ℕ → Lists → Lists
after k a = a ++ joins (ending_in a ((k ∷ []) ∷ [])) (starting_in ((k ∷ []) ∷ []) a)

by_way : (k : ℕ) (a : Lists) (x y : ℕ) → By k a x y → Has (after k a) x y
by_way k a x y h =
    let alone : Lists = (k ∷ []) ∷ [] in
    let here : has alone (k ∷ []) ≡ true = is_had alone (k ∷ []) (zero, omega arith, refl) in
    let ending = ending_in a alone in
    let starting = starting_in alone a in
    elim h [
      | inl s ↦ Contains-append_left a (joins ending starting) (x ∷ y ∷ []) s
      | inr t ↦
          let left : Contains ending (x ∷ k ∷ []) = has_filter (λ l. has alone (end_of l)) a (x ∷ k ∷ []) t.0 here in
          let right : Contains starting (k ∷ y ∷ []) = has_filter (λ l. has alone (start_of l)) a (k ∷ y ∷ []) t.1 here in
          let made : Contains (joined (x ∷ k ∷ []) (k ∷ y ∷ [])) (x ∷ y ∷ []) =
          subst (λ ys. Contains ys (x ∷ y ∷ [])) (sym (joined_at (x ∷ []) k (y ∷ []))) (zero, omega arith, refl) in
          Contains-append_right a (joins ending starting) (x ∷ y ∷ [])
          (flat_has (λ l. flat_map (joined l) starting) ending (x ∷ k ∷ []) (x ∷ y ∷ []) left (flat_has (joined (x ∷ k ∷ [])) starting (k ∷ y ∷ []) (x ∷ y ∷ []) right made))
    ]

goes : (ks : List ℕ) (a : Lists) (x : ℕ) (ms : List ℕ) (y : ℕ) → Among ks ms → Steps (Has a) x ms y → Has (through ks a) x y
goes [] a x [] y h s = s
goes [] a x (m ∷ ms) y h s = absurd (let l = h.0.1 in omega arith)
goes (k ∷ ks) a x ms y h s =
    let w = around k ks a x ms y h s in
    goes ks (after k a) x w.way y w.among (steps_to (By k a) (Has (after k a)) (by_way k a) x w.way y w.steps)

-- ---- walks from atom to atom

module _ (sizes : List Size) (ts : List ℕ) (sized : (s : ℕ) (b : Atom) → IsPlaceOf sizes s b → Contains ts s) (a : Lists) (P : Pred) (lies : (t : List Atom) → P t → InProducts sizes a t) where
  record IsWay (x y : Atom) : Type 0 where
    from : ℕ
    way : List ℕ
    to : ℕ
    first : IsPlaceOf sizes from x
    last : IsPlaceOf sizes to y
    among : Among ts way
    steps : Steps (Has a) from way to

  is_way : (x : Atom) (ms : List Atom) (y : Atom) → Walk P x ms y → IsWay x y
  is_way x [] y w =
      let h = lies (x ∷ y ∷ []) w in
      let p = is_pair sizes h.0 x y h.2 in
      record { from = p.left; way = []; to = p.right; first = p.first; last = p.second; among = tt; steps = subst (Contains a) p.parts h.1 }
  is_way x (m ∷ ms) y w =
      let h = lies (x ∷ m ∷ []) w.0 in
      let p = is_pair sizes h.0 x m h.2 in
      let rest = is_way m ms y w.1 in
      let step : Has a p.left p.right = subst (Contains a) p.parts h.1 in
      let same : p.right ≡ rest.from = place_once sizes p.right rest.from m p.second rest.first in
      record {
        from = p.left;
        way = rest.from ∷ rest.way;
        to = rest.to;
        first = p.first;
        last = rest.last;
        among = (sized rest.from m rest.first, rest.among);
        steps = (subst (Has a p.left) same step, rest.steps);
      }

  pub in_through : (t : List Atom) → Closed P t → InProducts sizes (through ts a) t
  in_through t c =
      let w = is_way c.0 c.1 c.2 c.4 in
      let pair : InProduct sizes (w.from ∷ w.to ∷ []) (c.0 ∷ c.2 ∷ []) = (w.first, (w.last, tt)) in
      (w.from ∷ w.to ∷ [], goes ts a w.from w.way w.to w.among w.steps, subst (InProduct sizes (w.from ∷ w.to ∷ [])) (sym c.3) pair)
