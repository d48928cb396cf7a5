-- A weight of rising lists of numbers, which is more where the list is earlier, and induction along the order.
use Rattle.std.proofs.Common.{◌≡◌, ℕ, zero, suc, ◌+◌, ◌-◌, ◌<◌, ◌≤◌, inl, inr, List, [], ◌∷◌, Contains, All, sym, ap, subst, arith}
use Rattle.std.proofs.lemmas.Bool.{cases_lt}
use Rattle.std.proofs.lemmas.List.Elements.{All-cons, All-head, All-tail, All-weaker}
use Rattle.rel_formula.proofs.RisingNumbers.{Rises}
use Rattle.rel_formula.proofs.Lists.{pairs_head, pairs_tail}
use Rattle.rel_formula.proofs.OpenCells.{cons_cases, cons_first, cons_later}
use Rattle.swap_symmetry.specs.Order.{IsEarlier}
use Rattle.swap_symmetry.proofs.ScenarioOrders.{least, not_again}

-- each number is below the count
abbrev pub AllBelow : ℕ → List ℕ → Type 0
AllBelow count s = All (λ n. n < count) s

-- one, doubled so many times
abbrev doubled : ℕ → ℕ
doubled zero = 1
doubled (suc n) = doubled n + doubled n

-- it is never zero
positive : (n : ℕ) → 0 < doubled n
positive zero = omega arith
positive (suc n) = let h = positive n in omega arith

-- doubled more often it is no less
more_often : (m n : ℕ) → m ≤ n → doubled m ≤ doubled n
more_often zero n l = let h = positive n in omega arith
more_often (suc m) zero l = absurd (omega arith)
more_often (suc m) (suc n) l = let h = more_often m n (omega arith) in omega arith

-- the least number weighs most, twice as much as the next one
abbrev weight : ℕ → List ℕ → ℕ
weight count [] = 0
weight count (x ∷ xs) = doubled (count - suc x) + weight count xs

-- numbers from k on weigh less than the number before k does
light : (count k : ℕ) (xs : List ℕ) → Rises xs → AllBelow count xs → All (λ n. k ≤ n) xs → weight count xs < doubled (count - k)
light count k [] up all from = positive (count - k)
light count k (x ∷ xs) up all from =
    let rest : weight count xs < doubled (count - suc x) = light count (suc x) xs (pairs_tail (λ m n. m < n) x xs up) (All-tail (λ n. n < count) x xs all) (pairs_head (λ m n. m < n) x xs up) in
    let here = All-head (λ n. n < count) x xs all in
    let low = All-head (λ n. k ≤ n) x xs from in
    let step : doubled (suc (count - suc x)) ≤ doubled (count - k) = more_often (suc (count - suc x)) (count - k) (omega arith) in
    omega arith

-- no list weighs as much as one doubled count times
bounded : (count : ℕ) (xs : List ℕ) → Rises xs → AllBelow count xs → weight count xs < doubled count
bounded count xs up all =
    let h = light count 0 xs up all (λ k d l. omega arith) in
    subst (λ n. weight count xs < doubled n) (let e : count - 0 ≡ count = omega arith in e) h

-- a head that both lists have does not matter
without_head : (x : ℕ) (xs ys : List ℕ) → Rises (x ∷ xs) → Rises (x ∷ ys) → IsEarlier (x ∷ xs) (x ∷ ys) → IsEarlier xs ys
without_head x xs ys up vp e = elim (cons_cases x xs e.0 e.1) [
  | inl same ↦ absurd (e.2 (subst (Contains (x ∷ ys)) same (cons_first x ys)))
  | inr d ↦ (
    e.0,
    d,
    λ c. e.2 (cons_later x ys e.0 c),
    λ m l. (
      λ c. elim (cons_cases x ys m ((e.3 m l).0 (cons_later x xs m c))) [ inl same ↦ absurd (not_again x xs up (subst (Contains xs) (sym same) c)) | inr there ↦ there ],
      λ c. elim (cons_cases x xs m ((e.3 m l).1 (cons_later x ys m c))) [ inl same ↦ absurd (not_again x ys vp (subst (Contains ys) (sym same) c)) | inr there ↦ there ],
    ),
  )
]

-- the earlier one of two lists weighs more
heavier : (count : ℕ) (t s : List ℕ) → Rises t → Rises s → AllBelow count t → AllBelow count s → IsEarlier t s → weight count s < weight count t
heavier count [] s up vp all also e = absurd (let l = e.1.1 in omega arith)
heavier count (x ∷ xs) [] up vp all also e = let h = positive (count - suc x) in omega arith
heavier count (x ∷ xs) (y ∷ ys) up vp all also e = elim (cases_lt x y) [
  | inl less ↦
      let above : All (λ n. suc x ≤ n) (y ∷ ys) = All-cons (λ n. suc x ≤ n) y ys less (All-weaker (λ n. y < n) (λ n. suc x ≤ n) (λ n l. omega arith) ys (pairs_head (λ m n. m < n) y ys vp)) in
      let h = light count (suc x) (y ∷ ys) vp also above in
      omega arith
  | inr past ↦ elim (cases_lt y x) [
    | inl more ↦
        let first = least x xs e.0 up e.1 in
        let there = (e.3 y (omega arith)).1 (cons_first y ys) in
        absurd (let l = least x xs y up there in omega arith)
    | inr back ↦
        let same : y ≡ x = omega arith in
        let h = heavier count xs ys (pairs_tail (λ m n. m < n) x xs up) (pairs_tail (λ m n. m < n) y ys vp) (All-tail (λ n. n < count) x xs all) (All-tail (λ n. n < count) y ys also)
        (without_head x xs ys up (subst (λ z. Rises (z ∷ ys)) same vp) (subst (λ z. IsEarlier (x ∷ xs) (z ∷ ys)) same e)) in
        let alike : doubled (count - suc y) ≡ doubled (count - suc x) = ap (λ z. doubled (count - suc z)) same in
        omega arith
  ]
]

-- what a list's weight lacks
abbrev pub lacks : ℕ → List ℕ → ℕ
lacks count s = doubled count - weight count s

-- the earlier one of two lists lacks less
pub lacks_less : (count : ℕ) (t s : List ℕ) → Rises t → Rises s → AllBelow count t → AllBelow count s → IsEarlier t s → lacks count t < lacks count s
lacks_less count t s up vp all also e =
    let more = heavier count t s up vp all also e in
    let most = bounded count t up all in
    omega arith

module _ (count : ℕ) (P : List ℕ → Type 0)
    (step : (s : List ℕ) → Rises s → AllBelow count s → ((t : List ℕ) → Rises t → AllBelow count t → IsEarlier t s → P t) → P s) where
  -- the rest that a list's weight lacks falls where the list gets earlier
  go : (rest : ℕ) (s : List ℕ) → Rises s → AllBelow count s → doubled count ≤ weight count s + rest → P s
  go zero s up all l = absurd (let h = bounded count s up all in omega arith)
  go (suc rest) s up all l = step s up all (λ t vp also e. go rest t vp also (let h = heavier count t s vp up also all e in omega arith))

  -- what holds of a rising list of numbers below the count wherever it holds of the earlier ones holds of every such list
  pub descend : (s : List ℕ) → Rises s → AllBelow count s → P s
  descend s up all = go (doubled count) s up all (omega arith)
