-- What is found, by parts.
use Rattle.std.proofs.Common.{◌≡◌, ℕ, ◌+◌, ◌==◌, Bool, true, false, ◌||◌, List, [], ◌∷◌, ◌++◌, map, length, if◌then◌else◌, inl, inr, refl, sym, ap, subst, ◌∙◌, arith}
use Rattle.std.specs.List.{AllByRecursion}
use Rattle.std.proofs.lemmas.Bool.{cases_Bool, eqb-true, eqb-false, eq-eqb, ne_eqb}
use Rattle.overload_resolution.specs.declared.shared_fields.found.Found.{Found}
use Rattle.overload_resolution.specs.declared.shared_fields.found.Found.TheVariants.{Nothing, One, Several}
use Rattle.overload_resolution.specs.Fields.Found.{both, found_by}

-- ---- two that are found

pub both_nothing : (a : Found) → both a Nothing ≡ a
both_nothing Nothing = refl
both_nothing (One m) = refl
both_nothing Several = refl

both_same : (a : Found) → both a a ≡ a
both_same Nothing = refl
both_same (One m) = rw (eq-eqb m m refl) refl
both_same Several = refl

both_turned : (a b : Found) → both a b ≡ both b a
both_turned Nothing Nothing = refl
both_turned Nothing (One n) = refl
both_turned Nothing Several = refl
both_turned (One m) Nothing = refl
both_turned (One m) (One n) =
    elim (cases_Bool (m == n)) [
      | inl e ↦ subst (λ k. both (One m) (One k) ≡ both (One k) (One m)) (eqb-true m n e) refl
      | inr e ↦ rw (e, ne_eqb n m (λ h. eqb-false m n e (sym h))) refl
    ]
both_turned (One m) Several = refl
both_turned Several Nothing = refl
both_turned Several (One n) = refl
both_turned Several Several = refl

both_grouped : (a b c : Found) → both (both a b) c ≡ both a (both b c)
both_grouped Nothing b c = refl
both_grouped Several b c = refl
both_grouped (One m) Nothing c = refl
both_grouped (One m) Several c = refl
both_grouped (One m) (One n) Nothing = if_nothing (m == n)
  where
    if_nothing : (b : Bool) → both (if b then One m else Several) Nothing ≡ (if b then One m else Several)
    if_nothing true = refl
    if_nothing false = refl
both_grouped (One m) (One n) Several = if_several (m == n)
  where
    if_several : (b : Bool) → both (if b then One m else Several) Several ≡ Several
    if_several true = refl
    if_several false = refl
both_grouped (One m) (One n) (One k) =
    elim (cases_Bool (m == n)) [
      | inl e ↦ subst (λ j. both (both (One m) (One j)) (One k) ≡ both (One m) (both (One j) (One k))) (eqb-true m n e) (alike ∙ within (m == k))
      | inr e ↦ rw e (apart (n == k) e)
    ]
  where
    alike : both (both (One m) (One m)) (One k) ≡ both (One m) (One k)
    alike = ap (λ a. both a (One k)) (both_same (One m))

    within : (b : Bool) → (if b then One m else Several) ≡ both (One m) (if b then One m else Several)
    within true = sym (both_same (One m))
    within false = refl

    apart : (b : Bool) → (m == n) ≡ false → Several ≡ both (One m) (if b then One n else Several)
    apart true e = rw e refl
    apart false e = refl

-- what is found a second time is there already
again : (a b c : Found) → both a (both b c) ≡ both (both a b) (both a c)
again a b c =
    ap (λ x. both x (both b c)) (sym (both_same a))
    ∙ both_grouped a a (both b c)
    ∙ ap (both a) (sym (both_grouped a b c) ∙ ap (λ x. both x c) (both_turned a b) ∙ both_grouped b a c)
    ∙ sym (both_grouped a b (both a c))

-- ---- what passes tests

module _ {X : Type 0} where
  pub found_by-same : (p q : X → Bool) (n : ℕ) (xs : List X) → AllByRecursion (λ x. p x ≡ q x) xs → found_by p n xs ≡ found_by q n xs
  found_by-same p q n [] h = refl
  found_by-same p q n (x ∷ xs) h = λ i. if h.0 i then both (One n) (found_by-same p q (n + 1) xs h.1 i) else found_by-same p q (n + 1) xs h.1 i

  -- what passes one of two tests
  pub found_by-or : (p q : X → Bool) (n : ℕ) (xs : List X) → found_by (λ x. p x || q x) n xs ≡ both (found_by p n xs) (found_by q n xs)
  found_by-or p q n [] = refl
  found_by-or p q n (x ∷ xs) = go (p x) (q x) _ _ _ (found_by-or p q (n + 1) xs)
    where
      go : (a b : Bool) (r s t : Found) → r ≡ both s t → (if a || b then both (One n) r else r) ≡ both (if a then both (One n) s else s) (if b then both (One n) t else t)
      go true true r s t e = ap (both (One n)) e ∙ again (One n) s t
      go true false r s t e = ap (both (One n)) e ∙ sym (both_grouped (One n) s t)
      go false true r s t e = ap (both (One n)) e ∙ sym (both_grouped (One n) s t) ∙ ap (λ y. both y t) (both_turned (One n) s) ∙ both_grouped s (One n) t
      go false false r s t e = e

  -- one item more
  pub found_by-push : (p : X → Bool) (n j : ℕ) (xs : List X) (x : X) → n + length xs ≡ j → found_by p n (xs ++ x ∷ []) ≡ both (found_by p n xs) (if p x then One j else Nothing)
  found_by-push p n j [] x e = go (p x)
    where
      go : (b : Bool) → (if b then both (One n) Nothing else Nothing) ≡ (if b then One j else Nothing)
      go true = ap One (omega (arith, e))
      go false = refl
  found_by-push p n j (y ∷ xs) x e = go (p y) _ _ (found_by-push p (n + 1) j xs x (omega (arith, e)))
    where
      go : (b : Bool) (r s : Found) → r ≡ both s (if p x then One j else Nothing) → (if b then both (One n) r else r) ≡ both (if b then both (One n) s else s) (if p x then One j else Nothing)
      go true r s e = ap (both (One n)) e ∙ sym (both_grouped (One n) s (if p x then One j else Nothing))
      go false r s e = e

  pub found_by-map : {Y : Type 0} (f : Y → X) (p : X → Bool) (n : ℕ) (ys : List Y) → found_by p n (map f ys) ≡ found_by (λ y. p (f y)) n ys
  found_by-map f p n [] = refl
  found_by-map f p n (y ∷ ys) = λ i. if p (f y) then both (One n) (found_by-map f p (n + 1) ys i) else found_by-map f p (n + 1) ys i

  -- where no item passes
  pub found_by-none : (n : ℕ) (xs : List X) (p : X → Bool) → ((x : X) → p x ≡ false) → found_by p n xs ≡ Nothing
  found_by-none n [] p h = refl
  found_by-none n (x ∷ xs) p h = rw (h x) (found_by-none (n + 1) xs p h)
