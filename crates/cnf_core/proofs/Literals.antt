-- Lemmas on literals and clauses.
use Rattle.std.proofs.Common.{◌≡◌, ◌<◌, ℕ, Bool, true, false, not, List, get_or, arith, sym, ◌∙◌, ap, inl, inr, refl}
use Rattle.std.proofs.Math.Bool.{beq}
use Rattle.std.proofs.lemmas.Bool.{cases_order}
use Rattle.std.proofs.lemmas.List.{get_or_default}
use Rattle.std.specs.List.{AllPairs, Contains}
use Rattle.cnf_core.specs.declared.literal.Lit.{Lit}
use Rattle.cnf_core.specs.Literal.{negation_of}

-- two literals with equal fields are equal
pub lit_equal : (a b : Lit) → a.var ≡ b.var → a.positive ≡ b.positive → a ≡ b
lit_equal a b v s =
    let mk : ℕ → Bool → Lit = λ n p. record { var = n; positive = p } in
    let first : mk a.var a.positive ≡ mk b.var a.positive = ap (λ (n : ℕ). mk n a.positive) v in
    let second : mk b.var a.positive ≡ mk b.var b.positive = ap (λ (p : Bool). mk b.var p) s in
    first ∙ second

pub signs_differ : (a b : Bool) → not (beq a b) ≡ true → a ≡ not b
signs_differ true true h = cc
signs_differ true false h = refl
signs_differ false true h = refl
signs_differ false false h = cc

pub signs_agree : (a b : Bool) → not (beq a b) ≡ false → a ≡ b
signs_agree true true h = refl
signs_agree true false h = cc
signs_agree false true h = cc
signs_agree false false h = refl

pub not_itself : (b : Bool) → b ≡ not b → ⊥
not_itself true h = cc
not_itself false h = cc

-- in a clause a variable stands once
pub same_var : (xs : List Lit) → AllPairs (λ a b. a.var < b.var) xs → (a b : Lit) → Contains xs a → Contains xs b → a.var ≡ b.var → a ≡ b
same_var xs rising a b (i, in_i, is_a) (j, in_j, is_b) e =
    let a' : get_or xs i a ≡ a = is_a in
    let b' : get_or xs j a ≡ b = get_or_default xs j a b in_j ∙ is_b in
    let av : (get_or xs i a).var ≡ a.var = ap (λ (l : Lit). l.var) a' in
    let bv : (get_or xs j a).var ≡ b.var = ap (λ (l : Lit). l.var) b' in
    elim (cases_order i j) [
      | inl same ↦ sym a' ∙ (ap (λ (k : ℕ). get_or xs k a) same ∙ b')
      | inr differ ↦ elim differ [
        | inl lt ↦ let up : (get_or xs i a).var < (get_or xs j a).var = rising i j a lt in_j in absurd (omega arith)
        | inr gt ↦ let up : (get_or xs j a).var < (get_or xs i a).var = rising j i a gt in_i in absurd (omega arith)
      ]
    ]

-- no clause has a variable with both signs
pub not_both : (xs : List Lit) → AllPairs (λ a b. a.var < b.var) xs → (l : Lit) → Contains xs l → Contains xs (negation_of l) → ⊥
not_both xs rising l here there =
    not_itself l.positive (ap (λ (x : Lit). x.positive) (same_var xs rising l (negation_of l) here there refl))
