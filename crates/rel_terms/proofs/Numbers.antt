-- Numbers that are said by a fact.
use Rattle.std.proofs.Common.{◌≡◌, ℕ, ◌+◌, ◌*◌, refl, sym, ◌∙◌}
use Rattle.rel_terms.specs.Numbers.{Number, Is, ◌⊕◌, ◌⊗◌, Only}

-- at most one number has the fact
abbrev pub Once : Number → Type 0
Once C = (n m : ℕ) → C n → C m → n ≡ m

pub sum_once : (C D : Number) → Once C → Once D → Once (C ⊕ D)
sum_once C D c d n m h g = h.4 ∙ (λ i. c h.0 g.0 h.2 g.2 i + d h.1 g.1 h.3 g.3 i) ∙ sym g.4

pub product_once : (C D : Number) → Once C → Once D → Once (C ⊗ D)
product_once C D c d n m h g = h.4 ∙ (λ i. c h.0 g.0 h.2 g.2 i * d h.1 g.1 h.3 g.3 i) ∙ sym g.4

pub is_once : (k : ℕ) → Once (Is k)
is_once k n m h g = h ∙ sym g

pub only : (C : Number) (k : ℕ) → Once C → C k → Only C k
only C k once c = record { has = c; no_other = λ n h. once n k h c }

pub only_is : (k : ℕ) → Only (Is k) k
only_is k = record { has = refl; no_other = λ n h. h }

pub only_sum : (C D : Number) (k l : ℕ) → Only C k → Only D l → Only (C ⊕ D) (k + l)
only_sum C D k l c d = record {
  has = (k, l, c.has, d.has, refl);
  no_other = λ n h. h.4 ∙ (λ i. c.no_other h.0 h.2 i + d.no_other h.1 h.3 i);
}

pub only_product : (C D : Number) (k l : ℕ) → Only C k → Only D l → Only (C ⊗ D) (k * l)
only_product C D k l c d = record {
  has = (k, l, c.has, d.has, refl);
  no_other = λ n h. h.4 ∙ (λ i. c.no_other h.0 h.2 i * d.no_other h.1 h.3 i);
}
