-- Lists in one order that have the same members are equal.
use Rattle.std.proofs.Common.{◌≡◌, inl, inr, suc, List, [], ◌∷◌, AllPairs, Contains, refl, sym, ap, ◌∙◌, subst, arith}
use Rattle.rel_formula.proofs.OpenCells.{cons_cases, cons_first, cons_later}

-- of two things at most one comes before the other
module _ {X : Type 0} (Before : X → X → Type 0) (only_one : (x y : X) → Before x y → Before y x → ⊥) where
  first_of_all : (x : X) (xs : List X) (y : X) → AllPairs Before (x ∷ xs) → Contains xs y → Before x y
  first_of_all x xs y sorted c = subst (Before x) c.2 (sorted 0 (suc c.0) y (omega arith) (let l = c.1 in omega arith))

  later_pairs : (x : X) (xs : List X) → AllPairs Before (x ∷ xs) → AllPairs Before xs
  later_pairs x xs sorted i j d l m = sorted (suc i) (suc j) d (omega arith) (omega arith)

  -- what is later than the first isn't the first
  rest_has : (x : X) (xs : List X) (y z : X) (ys : List X) → AllPairs Before (x ∷ xs) → x ≡ y → Contains xs z → Contains (y ∷ ys) z → Contains ys z
  rest_has x xs y z ys sorted same c d = elim (cons_cases y ys z d) [
    | inl e ↦
        let itself = subst (Before x) (sym (same ∙ e)) (first_of_all x xs z sorted c) in
        absurd (only_one x x itself itself)
    | inr later ↦ later
  ]

  pub one_order : (xs ys : List X) → AllPairs Before xs → AllPairs Before ys → ((z : X) → Contains xs z → Contains ys z) → ((z : X) → Contains ys z → Contains xs z) → xs ≡ ys
  one_order [] [] sx sy to back = refl
  one_order [] (y ∷ ys) sx sy to back = absurd (let l = (back y (cons_first y ys)).1 in omega arith)
  one_order (x ∷ xs) [] sx sy to back = absurd (let l = (to x (cons_first x xs)).1 in omega arith)
  one_order (x ∷ xs) (y ∷ ys) sx sy to back =
      let heads : x ≡ y = elim (cons_cases y ys x (to x (cons_first x xs))) [
        | inl e ↦ sym e
        | inr c ↦ elim (cons_cases x xs y (back y (cons_first y ys))) [
          | inl e ↦ e
          | inr d ↦ absurd (only_one x y (first_of_all x xs y sx d) (first_of_all y ys x sy c))
        ]
      ] in
      let rest = one_order xs ys (later_pairs x xs sx) (later_pairs y ys sy) (λ z c. rest_has x xs y z ys sx heads c (to z (cons_later x xs z c))) (λ z c. rest_has y ys x z xs sy (sym heads) c (back z (cons_later y ys z c))) in
      ap (λ (z : X). z ∷ xs) heads ∙ ap (λ (zs : List X). y ∷ zs) rest
