-- The first number at which two facts differ.
use Rattle.std.proofs.Common.{◌≡◌, ℕ, ◌+◌, ◌<◌, ◌↔◌, inl, inr, Bool, true, false, IsTrue, refl, sym, subst, arith}
use Rattle.std.proofs.lemmas.Bool.{cases_lt}
use Rattle.swap_symmetry.specs.Order.{ComesBefore}
use mathlib.Core.Bool.{not, beq}

equal : (p q : Bool) → not (beq p q) ≡ false → p ≡ q
equal true true e = refl
equal true false e = absurd (cc)
equal false true e = absurd (cc)
equal false false e = refl

module _ (P Q : ℕ → Type 0) where
  pub here_or_not : (n : ℕ) (p q : Bool) → IsTrue p ↔ P n → IsTrue q ↔ Q n → not (beq p q) ≡ true → ((m : ℕ) → m < n → P m ↔ Q m) → IsTrue p ↔ ComesBefore P Q
  here_or_not n true true f g differ below = absurd (cc)
  here_or_not n true false f g differ below = (λ e. (n, f.0 refl, λ h. absurd (let e : false ≡ true = g.1 h in cc), below), λ d. refl)
  here_or_not n false false f g differ below = absurd (cc)
  here_or_not n false true f g differ below =
      let none : P n → ⊥ = λ h. absurd (let e : false ≡ true = f.1 h in cc) in (
        λ e. absurd (let h : false ≡ true = e in cc),
        λ d. elim (cases_lt d.0 n) [
          | inl less ↦ absurd (d.2 ((below d.0 less).0 d.1))
          | inr past ↦ elim (cases_lt n d.0) [
            | inl more ↦ absurd (none ((d.3 n more).1 (g.0 refl)))
            | inr back ↦ let same : d.0 ≡ n = omega arith in absurd (none (subst P same d.1))
          ]
        ],
      )

  pub one_more : (n : ℕ) (p q : Bool) → IsTrue p ↔ P n → IsTrue q ↔ Q n → not (beq p q) ≡ false → ((m : ℕ) → m < n → P m ↔ Q m) → (m : ℕ) → m < n + 1 → P m ↔ Q m
  one_more n p q f g alike below m l =
      let same : p ≡ q = equal p q alike in
      elim (cases_lt m n) [
        | inl less ↦ below m less
        | inr past ↦ let is : n ≡ m = omega arith in subst (λ k. P k ↔ Q k) is
            (λ h. g.0 (subst IsTrue same (f.1 h)), λ h. f.0 (subst IsTrue (sym same) (g.1 h)))
      ]

  pub nowhere : (n : ℕ) → ((m : ℕ) → m < n → P m ↔ Q m) → ((m : ℕ) → P m → m < n) → ComesBefore P Q → ⊥
  nowhere n below within d = d.2 ((below d.0 (within d.0 d.1)).0 d.1)
