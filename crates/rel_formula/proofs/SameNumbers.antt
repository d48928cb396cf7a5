-- Rising lists with the same numbers are one.
use Rattle.std.proofs.Common.{◌≡◌, ℕ, ◌<◌, ◌↔◌, inl, inr, List, [], ◌∷◌, Contains, refl, sym, ◌∙◌, ap, arith}
use Rattle.std.proofs.lemmas.List.Elements.{All-contains}
use Rattle.rel_formula.proofs.RisingNumbers.{Rises}
use Rattle.rel_formula.proofs.Lists.{pairs_head, pairs_tail}
use Rattle.rel_formula.proofs.OpenCells.{cons_cases, cons_first, cons_later}

above : (x : ℕ) (xs : List ℕ) (n : ℕ) → Rises (x ∷ xs) → Contains xs n → x < n
above x xs n up c = All-contains (λ k. x < k) xs n (pairs_head (λ m k. m < k) x xs up) c

tail_has : (x y n : ℕ) (xs ys : List ℕ) → Rises (x ∷ xs) → x ≡ y → (Contains (x ∷ xs) n → Contains (y ∷ ys) n) → Contains xs n → Contains ys n
tail_has x y n xs ys up same h c = elim (cons_cases y ys n (h (cons_later x xs n c))) [
  | inl e ↦ absurd (let l = above x xs n up c in omega arith)
  | inr d ↦ d
]

pub same_rising : (xs ys : List ℕ) → Rises xs → Rises ys → ((n : ℕ) → Contains xs n ↔ Contains ys n) → xs ≡ ys
same_rising [] [] up vp h = refl
same_rising [] (y ∷ ys) up vp h = absurd (let c = (h y).1 (cons_first y ys) in let l = c.1 in omega arith)
same_rising (x ∷ xs) [] up vp h = absurd (let c = (h x).0 (cons_first x xs) in let l = c.1 in omega arith)
same_rising (x ∷ xs) (y ∷ ys) up vp h =
    let first : x ≡ y = elim (cons_cases y ys x ((h x).0 (cons_first x xs))) [
      | inl e ↦ sym e
      | inr c ↦ elim (cons_cases x xs y ((h y).1 (cons_first y ys))) [
        | inl e ↦ e
        | inr d ↦ absurd (let l = above y ys x vp c in let m = above x xs y up d in omega arith)
      ]
    ] in
    let rest = same_rising xs ys (pairs_tail (λ m k. m < k) x xs up) (pairs_tail (λ m k. m < k) y ys vp)
    (λ n. (tail_has x y n xs ys up first (h n).0, tail_has y x n ys xs vp (sym first) (h n).1)) in
    ap (λ z. z ∷ xs) first ∙ ap (λ zs. y ∷ zs) rest
