-- Facts of the elements of a list that has grown by one.
use Rattle.std.proofs.Common.{◌≡◌, ℕ, ◌+◌, ◌<◌, ◌↔◌, ◌⊎◌, inl, inr, true, false, IsTrue, List, [], ◌∷◌, ◌++◌, All, AllPairs, length, get_or, take, refl, sym, ◌∙◌, ap, subst, arith}
use Rattle.std.specs.List.{Any}
use Rattle.std.proofs.lemmas.Bool.{cases_lt}
use Rattle.std.proofs.lemmas.List.{take_more, get_or_push, get_or_append_left, get_or_default, length_push}
use Rattle.std.proofs.lemmas.List.Elements.{All-push}
use Rattle.std.proofs.lemmas.List.Quantifiers.{Any-push, all_pairs_push}
use Rattle.rel_formula.specs.declared.connectives.Connective.{Connective}
use Rattle.rel_formula.specs.declared.connectives.Connective.TheVariants as connective
use Rattle.rel_formula.specs.Evaluation.{HoldsOf}
use Rattle.rel_translate.specs.Grounding.{Connects, Guarded, holds_of_none}

pub take_last : {X : Type 0} (xs : List X) (i : ℕ) (x : X) → i < length xs → x ≡ get_or xs i x → take (i + 1) xs ≡ take i xs ++ x ∷ []
take_last xs i x l e = take_more xs i x l ∙ ap (λ y. take i xs ++ y ∷ []) (sym e)

module _ {X : Type 0} (P : X → Type 0) where
  all_start : (xs : List X) → IsTrue true ↔ All P (take 0 xs)
  all_start xs = (λ h k d l. absurd (omega arith), λ h. refl)

  any_start : (xs : List X) → IsTrue false ↔ Any P (take 0 xs)
  any_start xs = (λ h. absurd (cc), λ a. absurd (let l = a.2 in omega arith))

  pub two_start : (xs : List X) → IsTrue true ↔ AllPairs (λ x y. P x → P y → ⊥) (take 0 xs)
  two_start xs = (λ h i j d l k. absurd (omega arith), λ h. refl)

  -- at no two places
  abbrev pub NoTwo : List X → Type 0
  NoTwo xs = AllPairs (λ x y. P x → P y → ⊥) xs

  all_front : (xs : List X) (x : X) → All P (xs ++ x ∷ []) → All P xs
  all_front xs x all k d l = subst P (get_or_append_left xs (x ∷ []) d k l) (all k d (let e = length_push xs x in omega arith))

  all_last : (xs : List X) (x : X) → All P (xs ++ x ∷ []) → P x
  all_last xs x all = subst P (get_or_push xs x x (length xs) refl) (all (length xs) x (let e = length_push xs x in omega arith))

  all_more : (xs : List X) (i : ℕ) (x : X) → i < length xs → x ≡ get_or xs i x → All P (take (i + 1) xs) ↔ (All P (take i xs) × P x)
  all_more xs i x l e =
      let ys = take i xs in
      subst (λ zs. All P zs ↔ (All P ys × P x)) (sym (take_last xs i x l e)) (λ all. (all_front ys x all, all_last ys x all), λ h. All-push P ys x h.0 h.1)

  any_front : (xs : List X) (x : X) → Any P xs → Any P (xs ++ x ∷ [])
  any_front xs x a = (a.0, a.1, (let l = a.2 in let e = length_push xs x in omega arith), get_or_append_left xs (x ∷ []) a.1 a.0 a.2 ∙ a.3, a.4)

  any_cases : (xs : List X) (x : X) → Any P (xs ++ x ∷ []) → Any P xs ⊎ P x
  any_cases xs x a = elim (cases_lt a.0 (length xs)) [
    | inl less ↦ inl (a.0, a.1, less, sym (get_or_append_left xs (x ∷ []) a.1 a.0 less) ∙ a.3, a.4)
    | inr past ↦ let e : length xs ≡ a.0 = (let l = a.2 in let f = length_push xs x in omega arith) in
        inr (subst P (sym a.3 ∙ get_or_push xs x a.1 a.0 e) a.4)
  ]

  any_more : (xs : List X) (i : ℕ) (x : X) → i < length xs → x ≡ get_or xs i x → Any P (take (i + 1) xs) ↔ (Any P (take i xs) ⊎ P x)
  any_more xs i x l e =
      let ys = take i xs in
      subst (λ zs. Any P zs ↔ (Any P ys ⊎ P x)) (sym (take_last xs i x l e)) (any_cases ys x, λ h. elim h [ inl a ↦ any_front ys x a | inr p ↦ Any-push P ys x p ])

  pub junction_start : (c : Connective) (xs : List X) → IsTrue (holds_of_none c) ↔ HoldsOf c P (take 0 xs)
  junction_start connective.And xs = all_start xs
  junction_start connective.Or xs = any_start xs

  pub junction_more : (c : Connective) (xs : List X) (i : ℕ) (x : X) → i < length xs → x ≡ get_or xs i x → HoldsOf c P (take (i + 1) xs) ↔ Connects c (HoldsOf c P (take i xs)) (P x)
  junction_more connective.And xs i x l e = all_more xs i x l e
  junction_more connective.Or xs i x l e = any_more xs i x l e

  any_at : (xs : List X) (k : ℕ) (d : X) → k < length xs → P (get_or xs k d) → Any P xs
  any_at xs k d l p = (k, get_or xs k d, l, get_or_default xs k (get_or xs k d) d l, p)

  two_front : (xs : List X) (x : X) → NoTwo (xs ++ x ∷ []) → NoTwo xs
  two_front xs x two i j d l h p q =
      let e = length_push xs x in
      two i j d l (omega arith) (subst P (sym (get_or_append_left xs (x ∷ []) d i (omega arith))) p) (subst P (sym (get_or_append_left xs (x ∷ []) d j h)) q)

  two_last : (xs : List X) (x : X) → NoTwo (xs ++ x ∷ []) → Any P xs → P x → ⊥
  two_last xs x two a p =
      let e = length_push xs x in
      let l = a.2 in
      let at : get_or (xs ++ x ∷ []) a.0 x ≡ a.1 = get_or_append_left xs (x ∷ []) x a.0 l ∙ get_or_default xs a.0 x a.1 l ∙ a.3 in
      two a.0 (length xs) x l (omega arith) (subst P (sym at) a.4) (subst P (sym (get_or_push xs x x (length xs) refl)) p)

  pub two_more : (xs : List X) (i : ℕ) (x : X) → i < length xs → x ≡ get_or xs i x → NoTwo (take (i + 1) xs) ↔ (NoTwo (take i xs) × (Any P (take i xs) → P x → ⊥))
  two_more xs i x l e =
      let ys = take i xs in
      subst (λ zs. NoTwo zs ↔ (NoTwo ys × (Any P ys → P x → ⊥))) (sym (take_last xs i x l e)) (
        λ two. (two_front ys x two, two_last ys x two),
        λ h. all_pairs_push (λ s t. P s → P t → ⊥) ys x h.0 (λ k d m q r. h.1 (any_at ys k d m q) r),
      )

pub connects_same : (c : Connective) {A B C D : Type 0} → A ↔ C → B ↔ D → Connects c A B ↔ Connects c C D
connects_same connective.And f g = (λ h. (f.0 h.0, g.0 h.1), λ h. (f.1 h.0, g.1 h.1))
connects_same connective.Or f g = (λ h. elim h [ inl a ↦ inl (f.0 a) | inr b ↦ inr (g.0 b) ], λ h. elim h [ inl c ↦ inl (f.1 c) | inr d ↦ inr (g.1 d) ])

pub guarded_same : (c : Connective) {A B C D : Type 0} → A ↔ C → B ↔ D → Guarded c A B ↔ Guarded c C D
guarded_same connective.And f g = (λ h c. g.0 (h (f.1 c)), λ h a. g.1 (h (f.0 a)))
guarded_same connective.Or f g = (λ h. (f.0 h.0, g.0 h.1), λ h. (f.1 h.0, g.1 h.1))
