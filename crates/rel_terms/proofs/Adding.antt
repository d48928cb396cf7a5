-- How a running number goes on.
use Rattle.std.proofs.Common.{◌≡◌, ℕ, ◌+◌, ◌*◌, ◌≤◌, ◌<◌, ◌^◌, List, inl, inr, refl, sym, ◌∙◌, ap, subst, arith, length, Contains}
use Rattle.std.proofs.Math.Nat.{mul-le-mul_left, one-mul}
use Rattle.std.proofs.lemmas.Bool.{cases_lt}
use Rattle.tuple_core.specs.declared.atom.Atom.{Atom}
use Rattle.tuple_core.specs.Operators.{Pred}
use Rattle.tuple_core.specs.Rows.{Rows, IsRows, IsSetOf}
use Rattle.rel_formula.specs.Meaning.{HasAtLeast}
use Rattle.rel_formula.specs.Sizes.{HasSize}
use Rattle.rel_terms.specs.Numbers.{Number, Is, ◌⊕◌, ◌⊗◌, Only}
use Rattle.rel_terms.specs.Counting.{Adds, AddsForEach}
use Rattle.rel_terms.proofs.Numbers.{only, only_is, only_sum, only_product}
use Rattle.rel_formula.proofs.Counts.{no_longer}
use Rattle.rel_terms.proofs.TupleSizes.{size_once, size_same, rows_size}
use Rattle.std.proofs.lemmas.List.Elements.{All-contains}

pub adds_same : (C D : Number) (b a : ℕ) → ((n : ℕ) → C n → D n) → ((n : ℕ) → D n → C n) → Adds C b a → Adds D b a
adds_same C D b a to back h = record {
  rises = h.rises;
  exact = λ l. let e = h.exact l in (e.0, record { has = to e.0 e.1.has; no_other = λ n d. e.1.no_other n (back n d) }, e.2);
  above = λ l n d. h.above l n (back n d);
}

-- the number that alone has the fact was added
pub adds_only : (C : Number) (k b a : ℕ) → Only C k → Adds (Is k) b a → Adds C b a
adds_only C k b a o h = adds_same (Is k) C b a (λ n e. subst C (sym e) o.has) (λ n c. o.no_other n c) h

-- one number and then the other, which is known where the sum so far isn't above the limit
pub adds_then : (C D : Number) (b m a : ℕ) → Adds C b m → m ≤ a → (m ≤ 2 ^ 18 → Adds D m a) → Adds (C ⊕ D) b a
adds_then C D b m a f rise g = record {
  rises = let r = f.rises in omega arith;
  exact = λ l.
      let below : m ≤ 2 ^ 18 = omega arith in
      let e = f.exact below in
      let d = (g below).exact l in
      (e.0 + d.0, only_sum C D e.0 d.0 e.1 d.1, (let p = e.2 in let q = d.2 in omega arith));
  above = λ l n h. elim (cases_lt (2 ^ 18) m) [
    | inl over ↦ let o = f.above over h.0 h.2 in let s = h.4 in omega arith
    | inr below ↦
        let e = f.exact below in
        let same = e.1.no_other h.0 h.2 in
        let o = (g below).above l h.1 h.3 in
        let s = h.4 in let p = e.2 in omega arith
  ];
}

pub adds_both : (C D : Number) (b m a : ℕ) → Adds C b m → Adds D m a → Adds (C ⊕ D) b a
adds_both C D b m a f g = adds_then C D b m a f g.rises (λ l. g)

-- nothing was added
pub adds_none : (b : ℕ) → Adds (Is 0) b b
adds_none b = record {
  rises = omega arith;
  exact = λ l. (0, only_is 0, omega arith);
  above = λ l n e. omega arith;
}

-- above the limit each number may be added
pub adds_above : (C : Number) (b : ℕ) → 2 ^ 18 < b → Adds C b b
adds_above C b over = record {
  rises = omega arith;
  exact = λ l. absurd (omega arith);
  above = λ l n c. omega arith;
}

pub sum_left : (C D E : Number) (n : ℕ) → (C ⊕ (D ⊕ E)) n → ((C ⊕ D) ⊕ E) n
sum_left C D E n h = (h.0 + h.3.0, h.3.1, (h.0, h.3.0, h.2, h.3.2, refl), h.3.3, (let e = h.4 in let f = h.3.4 in omega arith))

pub sum_right : (C D E : Number) (n : ℕ) → ((C ⊕ D) ⊕ E) n → (C ⊕ (D ⊕ E)) n
sum_right C D E n h = (h.2.0, h.2.1 + h.1, h.2.2, (h.2.1, h.1, h.2.3, h.3, refl), (let e = h.4 in let f = h.2.4 in omega arith))

pub adds_left : (C D E : Number) (b a : ℕ) → Adds (C ⊕ (D ⊕ E)) b a → Adds ((C ⊕ D) ⊕ E) b a
adds_left C D E b a h = adds_same (C ⊕ (D ⊕ E)) ((C ⊕ D) ⊕ E) b a (sum_left C D E) (sum_right C D E) h

pub adds_right : (C D E : Number) (b a : ℕ) → Adds ((C ⊕ D) ⊕ E) b a → Adds (C ⊕ (D ⊕ E)) b a
adds_right C D E b a h = adds_same ((C ⊕ D) ⊕ E) (C ⊕ (D ⊕ E)) b a (sum_right C D E) (sum_left C D E) h

rows_are : (v : Rows) → IsSetOf v v.arity (Contains v.rows)
rows_are v = record { arity_is = refl; just = λ t. (λ c. c, λ c. c) }

-- the rows of a set are as many as their number
pub size_of_rows : (v : Rows) → IsRows v → Only (HasSize (Contains v.rows)) (length v.rows)
size_of_rows v well = rows_size well (rows_are v)

-- at least so many, and in all so many
pub part_fits : (P : Pred) (m n : ℕ) → HasAtLeast m P → HasSize P n → m ≤ n
part_fits P m n h s =
    let l = no_longer h.0 s.0 h.2 (λ t c. (s.1.just t).1 (All-contains P h.0 t h.3 c)) in
    let e = h.1 in let f = s.2 in omega arith

-- so many for each tuple of P, which has all of Q where the sum isn't above the limit
pub adds_times : (times : ℕ) (P Q : Pred) (b a : ℕ) → ((t : List Atom) → P t → Q t) → (a ≤ 2 ^ 18 → (t : List Atom) → Q t → P t) → AddsForEach times P b a → Adds (Is times ⊗ HasSize Q) b a
adds_times times P Q b a to back h = record {
  rises = h.adds.rises;
  exact = λ l.
      let e = h.adds.exact l in
      let size = size_same P Q h.part (record { to = to; back = back l }) (h.all l) in
      (times * h.part, only_product (Is times) (HasSize Q) times h.part (only_is times) (only (HasSize Q) h.part (size_once Q) size), (let p = e.1.has in let q = e.2 in omega arith));
  above = λ l n c.
      let part : HasAtLeast h.part Q = (h.there.0, h.there.1, h.there.2, λ k d i. to _ (h.there.3 k d i)) in
      let fits = mul-le-mul_left times (part_fits Q h.part c.1 part c.3) in
      let same : n ≡ times * c.1 = c.4 ∙ ap (λ t. t * c.1) c.2 in
      let over = h.adds.above l (times * h.part) refl in
      omega arith;
}

-- once for each
pub adds_once : (P : Pred) (b a : ℕ) → AddsForEach 1 P b a → Adds (HasSize P) b a
adds_once P b a h = adds_same (Is 1 ⊗ HasSize P) (HasSize P) b a
    (λ n c. subst (HasSize P) (sym (c.4 ∙ ap (λ t. t * c.1) c.2 ∙ one-mul c.1)) c.3)
    (λ n s. (1, n, refl, s, sym (one-mul n)))
    (adds_times 1 P P b a (λ t p. p) (λ l t p. p) h)
