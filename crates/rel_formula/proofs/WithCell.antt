-- A scenario with one cell more.
use Rattle.std.proofs.Common.{◌≡◌, ℕ, ◌<◌, ◌↔◌, ◌⊎◌, inl, inr, cond, List, [], ◌∷◌, Contains, All, eqb, sym, ◌∙◌, ap, subst, arith}
use Rattle.std.proofs.lemmas.Bool.{cases_lt, lt-ltb, le-ltb, eq-eqb, ne_eqb}
use Rattle.std.proofs.lemmas.List.Elements.{All-contains, All-nil, All-cons}
use Rattle.std.proofs.lemmas.List.Kept.{AllPairs-cons}
use Rattle.rel_formula.specs.Instance.{with_cell}
use Rattle.rel_formula.proofs.RisingNumbers.{Rises}
use Rattle.rel_formula.proofs.Lists.{pairs_nil, pairs_head, pairs_tail}
use Rattle.rel_formula.proofs.OpenCells.{cons_cases, cons_first, cons_later}
use Rattle.rel_formula.proofs.SameNumbers.{same_rising}

before : (x m : ℕ) (ms : List ℕ) → x < m → with_cell x (m ∷ ms) ≡ x ∷ m ∷ ms
before x m ms l = ap (λ b. cond b (x ∷ m ∷ ms) (cond (eqb x m) (m ∷ ms) (m ∷ with_cell x ms))) (lt-ltb x m l)

here : (x m : ℕ) (ms : List ℕ) → x ≡ m → with_cell x (m ∷ ms) ≡ m ∷ ms
here x m ms e =
    ap (λ b. cond b (x ∷ m ∷ ms) (cond (eqb x m) (m ∷ ms) (m ∷ with_cell x ms))) (le-ltb x m (omega arith))
    ∙ ap (λ b. cond b (m ∷ ms) (m ∷ with_cell x ms)) (eq-eqb x m e)

behind : (x m : ℕ) (ms : List ℕ) → m < x → with_cell x (m ∷ ms) ≡ m ∷ with_cell x ms
behind x m ms l =
    ap (λ b. cond b (x ∷ m ∷ ms) (cond (eqb x m) (m ∷ ms) (m ∷ with_cell x ms))) (le-ltb x m (omega arith))
    ∙ ap (λ b. cond b (m ∷ ms) (m ∷ with_cell x ms)) (ne_eqb x m (λ e. omega arith))

pub with_cell_has : (x : ℕ) (xs : List ℕ) (n : ℕ) → Contains (with_cell x xs) n ↔ (Contains xs n ⊎ (n ≡ x))
with_cell_has x [] n = (
  λ c. elim (cons_cases x [] n c) [ inl e ↦ inr (sym e) | inr d ↦ inl d ],
  λ s. elim s [ inl d ↦ absurd (let l = d.1 in omega arith) | inr e ↦ subst (Contains (x ∷ [])) (sym e) (cons_first x []) ],
)
with_cell_has x (y ∷ ys) n = elim (cases_lt x y) [
  | inl less ↦ subst (λ zs. Contains zs n ↔ (Contains (y ∷ ys) n ⊎ (n ≡ x))) (sym (before x y ys less)) (
    λ c. elim (cons_cases x (y ∷ ys) n c) [ inl e ↦ inr (sym e) | inr d ↦ inl d ],
    λ s. elim s [ inl d ↦ cons_later x (y ∷ ys) n d | inr e ↦ subst (Contains (x ∷ y ∷ ys)) (sym e) (cons_first x (y ∷ ys)) ],
  )
  | inr past ↦ elim (cases_lt y x) [
    | inr back ↦ let same : x ≡ y = omega arith in
        subst (λ zs. Contains zs n ↔ (Contains (y ∷ ys) n ⊎ (n ≡ x))) (sym (here x y ys same)) (
          λ c. inl c,
          λ s. elim s [ inl d ↦ d | inr e ↦ subst (Contains (y ∷ ys)) (sym (e ∙ same)) (cons_first y ys) ],
        )
    | inl more ↦ let rest = with_cell_has x ys n in
        subst (λ zs. Contains zs n ↔ (Contains (y ∷ ys) n ⊎ (n ≡ x))) (sym (behind x y ys more)) (
          λ c. elim (cons_cases y (with_cell x ys) n c) [
            | inl e ↦ inl (subst (Contains (y ∷ ys)) e (cons_first y ys))
            | inr d ↦ elim (rest.0 d) [ inl h ↦ inl (cons_later y ys n h) | inr e ↦ inr e ]
          ],
          λ s. elim s [
            | inl d ↦ elim (cons_cases y ys n d) [
              | inl e ↦ subst (Contains (y ∷ with_cell x ys)) e (cons_first y (with_cell x ys))
              | inr h ↦ cons_later y (with_cell x ys) n (rest.1 (inl h))
            ]
            | inr e ↦ cons_later y (with_cell x ys) n (rest.1 (inr e))
          ],
        )
  ]
]

pub all_of : (P : ℕ → Type 0) (xs : List ℕ) → ((n : ℕ) → Contains xs n → P n) → All P xs
all_of P [] h = All-nil P
all_of P (x ∷ xs) h = All-cons P x xs (h x (cons_first x xs)) (all_of P xs (λ n c. h n (cons_later x xs n c)))

pub with_cell_rises : (x : ℕ) (xs : List ℕ) → Rises xs → Rises (with_cell x xs)
with_cell_rises x [] up = AllPairs-cons (λ m n. m < n) x [] (All-nil (λ n. x < n)) (pairs_nil (λ m n. m < n))
with_cell_rises x (y ∷ ys) up =
    let above = pairs_head (λ m n. m < n) y ys up in
    elim (cases_lt x y) [
      | inl less ↦ subst Rises (sym (before x y ys less))
          (AllPairs-cons (λ m n. m < n) x (y ∷ ys) (All-cons (λ n. x < n) y ys less (all_of (λ n. x < n) ys (λ n c. let l = All-contains (λ n. y < n) ys n above c in omega arith))) up)
      | inr past ↦ elim (cases_lt y x) [
        | inr back ↦ let same : x ≡ y = omega arith in subst Rises (sym (here x y ys same)) up
        | inl more ↦ subst Rises (sym (behind x y ys more))
            (AllPairs-cons (λ m n. m < n) y (with_cell x ys)
            (all_of (λ n. y < n) (with_cell x ys) (λ n c. elim ((with_cell_has x ys n).0 c) [ inl d ↦ All-contains (λ n. y < n) ys n above d | inr e ↦ subst (λ k. y < k) (sym e) more ]))
            (with_cell_rises x ys (pairs_tail (λ m n. m < n) y ys up)))
      ]
    ]

-- the one rising list with these numbers
pub with_cell_is : (x : ℕ) (xs ys : List ℕ) → Rises xs → Rises ys → ((n : ℕ) → Contains ys n ↔ (Contains xs n ⊎ (n ≡ x))) → ys ≡ with_cell x xs
with_cell_is x xs ys up vp h = same_rising ys (with_cell x xs) vp (with_cell_rises x xs up) (λ n. let g = with_cell_has x xs n in (λ c. g.1 ((h n).0 c), λ c. (h n).1 (g.0 c)))

-- a cell that is there changes nothing
pub with_cell_there : (x : ℕ) (xs : List ℕ) → Rises xs → Contains xs x → xs ≡ with_cell x xs
with_cell_there x xs up has = with_cell_is x xs xs up up (λ n. (λ c. inl c, λ s. elim s [ inl c ↦ c | inr e ↦ subst (Contains xs) (sym e) has ]))
