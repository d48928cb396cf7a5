-- The order of scenarios.
use Rattle.std.proofs.Common.{◌≡◌, ℕ, ◌<◌, ◌≤◌, ◌⊎◌, inl, inr, List, [], ◌∷◌, Contains, refl, sym, ◌∙◌, ap, subst, arith}
use Rattle.std.proofs.lemmas.Bool.{cases_lt}
use Rattle.std.proofs.lemmas.List.Elements.{All-contains}
use Rattle.swap_symmetry.specs.Order.{IsEarlier}
use Rattle.rel_formula.proofs.RisingNumbers.{Rises}
use Rattle.rel_formula.proofs.Lists.{pairs_head, pairs_tail}
use Rattle.rel_formula.proofs.OpenCells.{cons_cases, cons_first, cons_later}

none_in : (n : ℕ) → Contains [] n → ⊥
none_in n c = let l = c.1 in omega arith

-- the head is the least
pub least : (x : ℕ) (xs : List ℕ) (n : ℕ) → Rises (x ∷ xs) → Contains (x ∷ xs) n → x ≤ n
least x xs n up c = elim (cons_cases x xs n c) [
  | inl e ↦ omega arith
  | inr d ↦ let l = All-contains (λ k. x < k) xs n (pairs_head (λ m k. m < k) x xs up) d in omega arith
]

not_below : (x : ℕ) (xs : List ℕ) (n : ℕ) → Rises (x ∷ xs) → n < x → Contains (x ∷ xs) n → ⊥
not_below x xs n up l c = let m = least x xs n up c in omega arith

-- and stands once
pub not_again : (x : ℕ) (xs : List ℕ) → Rises (x ∷ xs) → Contains xs x → ⊥
not_again x xs up c = let l = All-contains (λ k. x < k) xs x (pairs_head (λ m k. m < k) x xs up) c in omega arith

before_none : (x : ℕ) (xs : List ℕ) → Rises (x ∷ xs) → IsEarlier (x ∷ xs) []
before_none x xs up =
    (x, cons_first x xs, none_in x, λ m l. (λ c. absurd (not_below x xs m up l c), λ c. absurd (none_in m c)))

smaller_first : (x y : ℕ) (xs ys : List ℕ) → Rises (x ∷ xs) → Rises (y ∷ ys) → x < y → IsEarlier (x ∷ xs) (y ∷ ys)
smaller_first x y xs ys up vp less = (
  x,
  cons_first x xs,
  not_below y ys x vp less,
  λ m l. (λ c. absurd (not_below x xs m up l c), λ c. absurd (not_below y ys m vp (omega arith) c)),
)

same_first : (x : ℕ) (xs ys : List ℕ) → Rises (x ∷ xs) → IsEarlier xs ys → IsEarlier (x ∷ xs) (x ∷ ys)
same_first x xs ys up e = (
  e.0,
  cons_later x xs e.0 e.1,
  λ c. elim (cons_cases x ys e.0 c) [ inl same ↦ not_again x xs up (subst (Contains xs) (sym same) e.1) | inr d ↦ e.2 d ],
  λ m l. (
    λ c. elim (cons_cases x xs m c) [ inl same ↦ subst (Contains (x ∷ ys)) same (cons_first x ys) | inr d ↦ cons_later x ys m ((e.3 m l).0 d) ],
    λ c. elim (cons_cases x ys m c) [ inl same ↦ subst (Contains (x ∷ xs)) same (cons_first x xs) | inr d ↦ cons_later x xs m ((e.3 m l).1 d) ],
  ),
)

pub compared : (s t : List ℕ) → Rises s → Rises t → (s ≡ t) ⊎ (IsEarlier s t ⊎ IsEarlier t s)
compared [] [] up vp = inl refl
compared [] (y ∷ ys) up vp = inr (inr (before_none y ys vp))
compared (x ∷ xs) [] up vp = inr (inl (before_none x xs up))
compared (x ∷ xs) (y ∷ ys) up vp = elim (cases_lt x y) [
  | inl less ↦ inr (inl (smaller_first x y xs ys up vp less))
  | inr past ↦ elim (cases_lt y x) [
    | inl less ↦ inr (inr (smaller_first y x ys xs vp up less))
    | inr back ↦
        let same : x ≡ y = omega arith in
        let vp' : Rises (x ∷ ys) = subst (λ z. Rises (z ∷ ys)) (sym same) vp in
        elim (compared xs ys (pairs_tail (λ m k. m < k) x xs up) (pairs_tail (λ m k. m < k) y ys vp)) [
          | inl e ↦ inl (ap (λ z. z ∷ xs) same ∙ ap (λ zs. y ∷ zs) e)
          | inr other ↦ elim other [
            | inl e ↦ inr (inl (subst (λ z. IsEarlier (x ∷ xs) (z ∷ ys)) same (same_first x xs ys up e)))
            | inr e ↦ inr (inr (subst (λ z. IsEarlier (z ∷ ys) (x ∷ xs)) same (same_first x ys xs vp' e)))
          ]
        ]
  ]
]

pub only_one : (s t : List ℕ) → IsEarlier s t → IsEarlier t s → ⊥
only_one s t a b = elim (cases_lt a.0 b.0) [
  | inl less ↦ a.2 ((b.3 a.0 less).1 a.1)
  | inr past ↦ elim (cases_lt b.0 a.0) [
    | inl less ↦ b.2 ((a.3 b.0 less).1 b.1)
    | inr back ↦ let same : b.0 ≡ a.0 = omega arith in a.2 (subst (Contains t) same b.1)
  ]
]

pub goes_on : (r s t : List ℕ) → IsEarlier r s → IsEarlier s t → IsEarlier r t
goes_on r s t a b = elim (cases_lt a.0 b.0) [
  | inl less ↦ (
    a.0,
    a.1,
    λ c. a.2 ((b.3 a.0 less).1 c),
    λ m l. (λ c. (b.3 m (omega arith)).0 ((a.3 m l).0 c), λ c. (a.3 m l).1 ((b.3 m (omega arith)).1 c)),
  )
  | inr past ↦ elim (cases_lt b.0 a.0) [
    | inl less ↦ (
      b.0,
      (a.3 b.0 less).1 b.1,
      b.2,
      λ m l. (λ c. (b.3 m l).0 ((a.3 m (omega arith)).0 c), λ c. (a.3 m (omega arith)).1 ((b.3 m l).1 c)),
    )
    | inr back ↦ let same : b.0 ≡ a.0 = omega arith in absurd (a.2 (subst (Contains s) same b.1))
  ]
]
