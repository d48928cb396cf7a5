-- Rising lists of numbers.
use Rattle.std.proofs.Common.{◌≡◌, ℕ, ◌+◌, ◌-◌, ◌<◌, ◌≤◌, inl, inr, List, length, get_or, Contains, AllPairs, sym, ◌∙◌, ap, subst, arith}
use Rattle.std.specs.Prelude.{insert}
use Rattle.std.proofs.lemmas.Bool.{cases_lt}
use Rattle.std.proofs.lemmas.List.{get_or_default}
use Rattle.std.proofs.lemmas.List.Edits.{length-insert, get_or-insert_below, get_or-insert_at, get_or-insert_above}

abbrev pub Rises : List ℕ → Type 0
Rises xs = AllPairs (λ m n. m < n) xs

-- rising numbers do not fall
pub never_fall : (xs : List ℕ) → Rises xs → (i j : ℕ) → i ≤ j → j < length xs → get_or xs i 0 ≤ get_or xs j 0
never_fall xs up i j l in' = elim (cases_lt i j) [
  | inl less ↦ let h = up i j 0 less in' in omega arith
  | inr past ↦ let same : i ≡ j = omega arith in subst (λ k. get_or xs i 0 ≤ get_or xs k 0) same (omega arith)
]

module _ (xs : List ℕ) (x i : ℕ) (up : Rises xs) (l : i ≤ length xs)
    (below : (k : ℕ) → k < i → get_or xs k 0 < x) (above : (k : ℕ) → i ≤ k → k < length xs → x < get_or xs k 0) where
  pub absent : Contains xs x → ⊥
  absent c =
      let at : get_or xs c.0 0 ≡ x = get_or_default xs c.0 0 x c.1 ∙ c.2 in
      elim (cases_lt c.0 i) [
        | inl before ↦ let h = below c.0 before in omega arith
        | inr past ↦ let h = above c.0 past c.1 in omega arith
      ]

  low : (k d : ℕ) → k < i → get_or xs k d < x
  low k d h = subst (λ n. n < x) (get_or_default xs k 0 d (omega arith)) (below k h)

  high : (k d : ℕ) → i ≤ k → k < length xs → x < get_or xs k d
  high k d h in' = subst (λ n. x < n) (get_or_default xs k 0 d in') (above k h in')

  pub still_rises : Rises (insert xs i x)
  still_rises j k d less in' =
      let long = length-insert xs i x l in
      elim (cases_lt k i) [
        | inl k_before ↦ subst (λ t. get_or (insert xs i x) j d < t) (sym (get_or-insert_below xs i x d k k_before l))
            (subst (λ s. s < get_or xs k d) (sym (get_or-insert_below xs i x d j (omega arith) l)) (up j k d less (omega arith)))
        | inr k_past ↦ elim (cases_lt i k) [
          | inr k_at ↦ let same : i ≡ k = omega arith in
              subst (λ n. get_or (insert xs i x) j d < get_or (insert xs i x) n d) same
              (subst (λ t. get_or (insert xs i x) j d < t) (sym (get_or-insert_at xs i x d l))
              (subst (λ s. s < x) (sym (get_or-insert_below xs i x d j (omega arith) l)) (low j d (omega arith))))
          | inl k_above ↦
              let k' : get_or (insert xs i x) k d ≡ get_or xs (k - 1) d = ap (λ n. get_or (insert xs i x) n d) (let e : k ≡ k - 1 + 1 = omega arith in e) ∙ get_or-insert_above xs i x d (k - 1) (omega arith) l in
              subst (λ t. get_or (insert xs i x) j d < t) (sym k') (elim (cases_lt j i) [
                | inl j_before ↦ subst (λ s. s < get_or xs (k - 1) d) (sym (get_or-insert_below xs i x d j j_before l)) (up j (k - 1) d (omega arith) (omega arith))
                | inr j_past ↦ elim (cases_lt i j) [
                  | inr j_at ↦ let same : i ≡ j = omega arith in
                      subst (λ n. get_or (insert xs i x) n d < get_or xs (k - 1) d) same
                      (subst (λ s. s < get_or xs (k - 1) d) (sym (get_or-insert_at xs i x d l)) (high (k - 1) d (omega arith) (omega arith)))
                  | inl j_above ↦
                      let j' : get_or (insert xs i x) j d ≡ get_or xs (j - 1) d = ap (λ n. get_or (insert xs i x) n d) (let e : j ≡ j - 1 + 1 = omega arith in e) ∙ get_or-insert_above xs i x d (j - 1) (omega arith) l in
                      subst (λ s. s < get_or xs (k - 1) d) (sym j') (up (j - 1) (k - 1) d (omega arith) (omega arith))
                ]
              ])
        ]
      ]
