-- In how many ways different elements can be arranged.
use Rattle.std.proofs.Common.{◌≡◌, ◌≢◌, ◌⊎◌, inl, inr, ◌≤◌, ◌*◌, [], ◌∷◌, ℕ, zero, suc, List, length, get_or, map, flat_map, All, AllPairs, Contains, refl, sym, ◌∙◌, subst, arith}
use Rattle.std.proofs.lemmas.List.{length-map}
use Rattle.std.proofs.lemmas.List.Concat.{length-flat_map}
use Rattle.std.proofs.lemmas.List.Elements.{All-nil, All-cons, All-head, All-tail, All-map, All-contains, Contains-append_left, Contains-append_right}
use Rattle.std.proofs.lemmas.List.Sums.{sum_by-le}
use Rattle.std.proofs.Math.Nat.{mul-le-mul_right}
use Rattle.rel_formula.proofs.Lists.{pairs_head, pairs_tail}
use Rattle.rel_formula.proofs.OpenCells.{cons_cases, cons_first, cons_later, has_map}
use Rattle.renaming_classes.specs.Counts.{factorial}
use Rattle.translation_rules.proofs.Tests.{from_each}

pub in_flat : {X Y : Type 0} (f : X → List Y) (xs : List X) (x : X) (y : Y) → Contains xs x → Contains (f x) y → Contains (flat_map f xs) y
in_flat f [] x y c h = absurd (let l = c.1 in omega arith)
in_flat f (z ∷ xs) x y c h = elim (cons_cases z xs x c) [
  | inl same ↦ Contains-append_left (f z) (flat_map f xs) y (subst (λ w. Contains (f w) y) (sym same) h)
  | inr later ↦ Contains-append_right (f z) (flat_map f xs) y (in_flat f xs x y later h)
]

-- a pick from a longer list
abbrev beside : {X : Type 0} → X → X × List X → X × List X
beside x r = (r.0, x ∷ r.1)

-- each element, with the others
pub picks : {X : Type 0} → List X → List (X × List X)
picks [] = []
picks (x ∷ xs) = (x, xs) ∷ map (beside x) (picks xs)

pub so_many_picks : {X : Type 0} (xs : List X) → length (picks xs) ≡ length xs
unfolding picks
so_many_picks [] = refl
so_many_picks {X} (x ∷ xs) = let h = so_many_picks xs in let e = length-map (picks xs) (beside x) in omega arith

pub one_less : {X : Type 0} (xs : List X) → All (λ (r : X × List X). suc (length r.1) ≡ length xs) (picks xs)
unfolding picks
one_less {X} [] = All-nil (λ (r : X × List X). suc (length r.1) ≡ 0)
one_less {X} (x ∷ xs) = All-cons (λ (r : X × List X). suc (length r.1) ≡ suc (length xs)) (x, xs) (map (beside x) (picks xs)) refl
    (All-map (λ (r : X × List X). suc (length r.1) ≡ suc (length xs)) (beside x) (picks xs) (λ k d l. let h = one_less xs k d l in omega arith))

-- a member is picked, and any other one is left
pub pick : {X : Type 0} (xs : List X) (y : X) → Contains xs y → (rest : List X) × Contains (picks xs) (y, rest) × ((z : X) → Contains xs z → (y ≡ z) ⊎ Contains rest z)
unfolding picks
pick [] y c = absurd (let l = c.1 in omega arith)
pick {X} (x ∷ xs) y c = elim (cons_cases x xs y c) [
  | inl same ↦ (
    xs,
    subst (λ (h : X). Contains (picks (x ∷ xs)) (h, xs)) same (cons_first (x, xs) (map (beside x) (picks xs))),
    λ z d. elim (cons_cases x xs z d) [
      | inl e ↦ inl (sym same ∙ e)
      | inr later ↦ inr later
    ],
  )
  | inr there ↦
      let f = pick xs y there in (
        x ∷ f.0,
        cons_later (x, xs) (map (beside x) (picks xs)) (y, x ∷ f.0) (has_map (beside x) (picks xs) (y, f.0) f.1),
        λ z d. elim (cons_cases x xs z d) [
          | inl e ↦ inr (subst (Contains (x ∷ f.0)) e (cons_first x f.0))
          | inr later ↦ elim (f.2 z later) [ inl e ↦ inl e | inr left ↦ inr (cons_later x f.0 z left) ]
        ],
      )
]

-- all lists of so many elements, each place used once
pub arrangements : {X : Type 0} → ℕ → List X → List (List X)
arrangements zero xs = [] ∷ []
arrangements (suc n) xs = flat_map (λ r. map (λ ys. r.0 ∷ ys) (arrangements n r.1)) (picks xs)

pub few_arrangements : {X : Type 0} (n : ℕ) (xs : List X) → length xs ≡ n → length (arrangements n xs) ≤ factorial n
unfolding arrangements
few_arrangements zero xs e = omega arith
few_arrangements {X} (suc n) xs e =
    let each : All (λ (r : X × List X). length (map (λ (ys : List X). r.0 ∷ ys) (arrangements n r.1)) ≤ factorial n) (picks xs) = λ k d l.
    let r = get_or (picks xs) k d in
    let long = length-map (arrangements n r.1) (λ (ys : List X). r.0 ∷ ys) in
    let less = one_less xs k d l in
    let few = few_arrangements n r.1 (omega arith) in
    omega arith in
    let sum = sum_by-le (λ (r : X × List X). length (map (λ (ys : List X). r.0 ∷ ys) (arrangements n r.1))) (factorial n) (picks xs) each in
    let flat = length-flat_map (λ (r : X × List X). map (λ (ys : List X). r.0 ∷ ys) (arrangements n r.1)) (picks xs) in
    let many : length (picks xs) ≡ suc n = so_many_picks xs ∙ e in
    let most : length (picks xs) * factorial n ≤ suc n * factorial n = mul-le-mul_right (factorial n) (let h : length (picks xs) ≤ suc n = omega arith in h) in
    omega arith

-- different elements, as many as there are, are among them
pub arranged : {X : Type 0} (n : ℕ) (xs ys : List X) → length ys ≡ n → AllPairs (λ x y. x ≢ y) ys → All (Contains xs) ys → Contains (arrangements n xs) ys
unfolding arrangements
arranged zero xs [] e differ among = (zero, omega arith, refl)
arranged zero xs (y ∷ ys) e differ among = absurd (omega arith)
arranged (suc n) xs [] e differ among = absurd (omega arith)
arranged {X} (suc n) xs (y ∷ ys) e differ among =
    let f = pick xs y (All-head (Contains xs) y ys among) in
    let rest : All (Contains f.0) ys = from_each (Contains f.0) ys (λ z c. elim (f.2 z (All-contains (Contains xs) ys z (All-tail (Contains xs) y ys among) c)) [
      | inl same ↦ absurd (All-contains (λ (z : X). y ≢ z) ys z (pairs_head (λ (a b : X). a ≢ b) y ys differ) c same)
      | inr left ↦ left
    ]) in
    in_flat (λ (r : X × List X). map (λ (zs : List X). r.0 ∷ zs) (arrangements n r.1)) (picks xs) (y, f.0) (y ∷ ys) f.1
    (has_map (λ (zs : List X). y ∷ zs) (arrangements n f.0) ys (arranged n f.0 ys (omega arith) (pairs_tail (λ (a b : X). a ≢ b) y ys differ) rest))

-- what has codes of its own is no longer than the codes
pub no_more_than_codes : {X Y : Type 0} (R : X → Y → Type 0) (xs : List X) (ys : List Y) → AllPairs (λ a b. a ≢ b) xs → All (λ x. (y : Y) × Contains ys y × R x y) xs
    → ((a b : X) (y : Y) → Contains xs a → Contains xs b → R a y → R b y → a ≡ b) → length xs ≤ length ys
no_more_than_codes R [] ys differ coded one = omega arith
no_more_than_codes {X} {Y} R (x ∷ xs) ys differ coded one =
    let code = All-head (λ (x : X). (y : Y) × Contains ys y × R x y) x xs coded in
    let f = pick ys code.0 code.1 in
    let later : All (λ (x : X). (y : Y) × Contains f.0 y × R x y) xs = from_each (λ (x : X). (y : Y) × Contains f.0 y × R x y) xs (λ a c.
    let other = All-contains (λ (x : X). (y : Y) × Contains ys y × R x y) xs a (All-tail (λ (x : X). (y : Y) × Contains ys y × R x y) x xs coded) c in
    elim (f.2 other.0 other.1) [
      | inl same ↦ absurd (All-contains (λ (b : X). x ≢ b) xs a (pairs_head (λ (a b : X). a ≢ b) x xs differ) c
          (one x a code.0 (cons_first x xs) (cons_later x xs a c) code.2 (subst (R a) (sym same) other.2)))
      | inr left ↦ (other.0, left, other.2)
    ]) in
    let rest = no_more_than_codes R xs f.0 (pairs_tail (λ (a b : X). a ≢ b) x xs differ) later (λ a b y c d. one a b y (cons_later x xs a c) (cons_later x xs b d)) in
    let long = All-contains (λ (r : Y × List Y). suc (length r.1) ≡ length ys) (picks ys) (code.0, f.0) (one_less ys) f.1 in
    omega arith
