-- Factorials and products of them grow.
use Rattle.std.proofs.Common.{◌≡◌, ℕ, zero, suc, ◌+◌, ◌*◌, ◌<◌, ◌≤◌, inl, inr, List, Option, Some, None, MatchOption, sym, ◌∙◌, ap, subst, arith}
use Rattle.std.specs.List.{count_by}
use Rattle.std.proofs.lemmas.Bool.{cases_lt}
use Rattle.std.proofs.Math.Nat.{mul-le-mul_left, mul-le-mul_right, le-mul_of_pos_right, mul_assoc, mul_comm}
use Rattle.tuple_core.specs.declared.atom.Atom.{Atom}
use Rattle.renaming_classes.specs.Counts.{factorial, is_of, orders}

pub positive : (n : ℕ) → 0 < factorial n
positive zero = omega arith
positive (suc n) = let h = le-mul_of_pos_right (suc n) (positive n) in omega arith

grows_by_one : (n : ℕ) → factorial n ≤ factorial (suc n)
grows_by_one n = let h = mul-le-mul_right {m = 1} {n = suc n} (factorial n) (omega arith) in omega arith

pub grows : (m n : ℕ) → m ≤ n → factorial m ≤ factorial n
grows m zero l = let e : m ≡ 0 = omega arith in subst (λ k. factorial k ≤ factorial zero) (sym e) (omega arith)
grows m (suc n) l = elim (cases_lt m (suc n)) [
  | inl less ↦ let h = grows m n (omega arith) in let g = grows_by_one n in omega arith
  | inr past ↦ let e : m ≡ suc n = omega arith in subst (λ k. factorial k ≤ factorial (suc n)) (sym e) (omega arith)
]

moved : (start f n : ℕ) → start * f * (n + 1) ≡ start * (suc n * f)
moved start f n = mul_assoc start f (n + 1) ∙ ap (λ k. start * k) (mul_comm f (n + 1) ∙ ap (λ k. k * f) (let e : n + 1 ≡ suc n = omega arith in e))

pub next_factorial : (start n : ℕ) → start * factorial n * (n + 1) ≡ start * factorial (n + 1)
next_factorial start n = moved start (factorial n) n ∙ ap (λ k. start * factorial k) (let e : suc n ≡ n + 1 = omega arith in e)

-- a factorial of a number above this one is at least that of the next one
pub next_fits : (start n count : ℕ) → n < count → start * factorial n * (n + 1) ≤ start * factorial count
next_fits start n count l =
    let h = mul-le-mul_left start (grows (suc n) count (omega arith)) in
    let e : start * factorial n * (n + 1) ≡ start * factorial (suc n) = moved start (factorial n) n in
    omega arith

module _ (atoms : List (List Atom)) where
  pub orders_grow : (s t : ℕ) → s ≤ t → orders atoms s ≤ orders atoms t
  orders_grow s zero l = let e : s ≡ 0 = omega arith in subst (λ k. orders atoms k ≤ orders atoms zero) (sym e) (omega arith)
  orders_grow s (suc t) l = elim (cases_lt s (suc t)) [
    | inl less ↦
        let h = orders_grow s t (omega arith) in
        let g = le-mul_of_pos_right (orders atoms t) (positive (count_by (is_of t) atoms)) in
        omega arith
    | inr past ↦ let e : s ≡ suc t = omega arith in subst (λ k. orders atoms k ≤ orders atoms (suc t)) (sym e) (omega arith)
  ]

-- what follows from a number, and from there being none
pub match_weaker : (o : Option ℕ) (A B : Type 0) (P Q : ℕ → Type 0) → (A → B) → ((n : ℕ) → P n → Q n) → MatchOption o A P → MatchOption o B Q
match_weaker None A B P Q f g h = f h
match_weaker (Some n) A B P Q f g h = g n h
