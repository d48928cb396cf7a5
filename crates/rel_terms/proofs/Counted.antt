-- The numbers of terms and the upper values of expressions, operator by operator.
use Rattle.std.proofs.Common.{◌≡◌, ℕ, ◌≤◌, ◌^◌, ◌↔◌, [], ◌∷◌, ◌++◌, Contains, refl, ◌∙◌, ap, arith}
use Rattle.tuple_core.specs.declared.operator.Operator.{Operator}
use Rattle.tuple_core.specs.declared.operator.Operator.TheVariants as operator
use Rattle.tuple_core.specs.declared.operator.UnaryOperator.{UnaryOperator}
use Rattle.tuple_core.specs.declared.operator.UnaryOperator.TheVariants as unary_operator
use Rattle.tuple_core.specs.Operators.{Pred, Closed, turned, may_combine, arity_with}
use Rattle.tuple_core.specs.Gains.{Same}
use Rattle.tuple_core.specs.Rows.{Rows, IsSetOf}
use Rattle.tuple_core.proofs.Congruence.{same_back, Closed-same, may_combine_same, turned_same}
use Rattle.rel_formula.specs.Sizes.{HasSize}
use Rattle.rel_terms.specs.Numbers.{Number, Is, ◌⊕◌, ◌⊗◌}
use Rattle.rel_terms.specs.Terms.{Meeting, own_terms, turn_terms}
use Rattle.rel_terms.specs.Counting.{Adds, IsCounted}
use Rattle.rel_terms.proofs.TupleSizes.{size_same}
use Rattle.rel_terms.proofs.Adding.{adds_same, adds_then, adds_both}

-- one number has both facts
abbrev pub Alike : Number → Number → Type 0
Alike C D = (n : ℕ) → C n ↔ D n

pub alike_itself : (C : Number) → Alike C C
alike_itself C n = (λ h. h, λ h. h)

pub alike_size : {P Q : Pred} → Same P Q → Alike (HasSize P) (HasSize Q)
alike_size {P} {Q} s n = (size_same P Q n s, size_same Q P n (same_back s))

pub alike_sum : (C D E F : Number) → Alike C E → Alike D F → Alike (C ⊕ D) (E ⊕ F)
alike_sum C D E F p q n = (λ h. (h.0, h.1, (p h.0).0 h.2, (q h.1).0 h.3, h.4), λ h. (h.0, h.1, (p h.0).1 h.2, (q h.1).1 h.3, h.4))

pub alike_product : (C D E F : Number) → Alike C E → Alike D F → Alike (C ⊗ D) (E ⊗ F)
alike_product C D E F p q n = (λ h. (h.0, h.1, (p h.0).0 h.2, (q h.1).0 h.3, h.4), λ h. (h.0, h.1, (p h.0).1 h.2, (q h.1).1 h.3, h.4))

pub adds_alike : (C D : Number) (b a : ℕ) → Alike C D → Adds C b a → Adds D b a
adds_alike C D b a p h = adds_same C D b a (λ n. (p n).0) (λ n. (p n).1) h

pub counted : {v : Rows} {n : ℕ} {P : Pred} {C : Number} {b a : ℕ} → IsSetOf v n P → Adds C b a → IsCounted v n P C b a
counted is adds = record { arity_is = is.arity_is; just = λ l. is.just; adds = adds }

-- the tuples are those of P, where the number isn't above the limit
pub counted_same : {v : Rows} {n : ℕ} {P : Pred} {C : Number} {b a : ℕ} → IsCounted v n P C b a → a ≤ 2 ^ 18 → Same (Contains v.rows) P
counted_same h l = record { to = λ t. (h.just l t).0; back = λ t. (h.just l t).1 }

-- an operator of one operand
unary : {l v : Rows} {n k : ℕ} {P R : Pred} {C Own : Number} {b x a : ℕ} (j : ℕ) (R' : Pred) (Own' : Number) → k ≡ j →
    IsCounted l n P C b x → IsCounted v k R Own x a →
    (Same (Contains l.rows) P → Same R R') → (Same (Contains l.rows) P → Alike Own Own') → IsCounted v j R' (C ⊕ Own') b a
unary {C = C} {Own = Own} {b = b} {x = x} {a = a} j R' Own' e f o same alike = record {
  arity_is = o.arity_is ∙ e;
  just = λ l.
      let rise = o.adds.rises in
      let s = same (counted_same f (omega arith)) in
      λ t. (λ c. s.to t ((o.just l t).0 c), λ q. (o.just l t).1 (s.back t q));
  adds = adds_then C Own' b x a f.adds o.adds.rises (λ l. adds_alike Own Own' x a (alike (counted_same f l)) o.adds);
}

-- an operator of two operands
binary : {l r v : Rows} {n m k : ℕ} {P Q R : Pred} {C D Own : Number} {b x y a : ℕ} (j : ℕ) (R' : Pred) (Own' : Number) → k ≡ j →
    IsCounted l n P C b x → IsCounted r m Q D x y → IsCounted v k R Own y a →
    (Same (Contains l.rows) P → Same (Contains r.rows) Q → Same R R') →
    (Same (Contains l.rows) P → Same (Contains r.rows) Q → Alike Own Own') → IsCounted v j R' (C ⊕ D ⊕ Own') b a
binary {C = C} {D = D} {Own = Own} {b = b} {x = x} {y = y} {a = a} j R' Own' e f g o same alike = record {
  arity_is = o.arity_is ∙ e;
  just = λ l.
      let rise = o.adds.rises in
      let rise' = g.adds.rises in
      let s = same (counted_same f (omega arith)) (counted_same g (omega arith)) in
      λ t. (λ c. s.to t ((o.just l t).0 c), λ q. (o.just l t).1 (s.back t q));
  adds = adds_then (C ⊕ D) Own' b y a (adds_both C D b x y f.adds g.adds) o.adds.rises
      (λ l. let rise = g.adds.rises in adds_alike Own Own' y a (alike (counted_same f (omega arith)) (counted_same g l)) o.adds);
}

Meeting-same : {P Q R S : Pred} → Same P R → Same Q S → Same (Meeting P Q) (Meeting R S)
Meeting-same f g = record {
  to = λ t h. (h.0, h.1, h.2, f.to (h.0 ++ h.1 ∷ []) h.3, g.to (h.1 ∷ h.2) h.4, h.5);
  back = λ t h. (h.0, h.1, h.2, f.back (h.0 ++ h.1 ∷ []) h.3, g.back (h.1 ∷ h.2) h.4, h.5);
}

own_alike : (o : Operator) {P Q R S : Pred} → Same P R → Same Q S → Alike (own_terms o P Q) (own_terms o R S)
own_alike operator.Union {P} {Q} {R} {S} f g = alike_sum (HasSize P) (HasSize Q) (HasSize R) (HasSize S) (alike_size f) (alike_size g)
own_alike operator.Minus {P} {Q} {R} {S} f g = alike_sum (HasSize P) (HasSize Q) (HasSize R) (HasSize S) (alike_size f) (alike_size g)
own_alike operator.Meet {P} {Q} {R} {S} f g = alike_sum (HasSize P) (HasSize Q) (HasSize R) (HasSize S) (alike_size f) (alike_size g)
own_alike operator.Product {P} {Q} {R} {S} f g = alike_product (HasSize P) (HasSize Q) (HasSize R) (HasSize S) (alike_size f) (alike_size g)
own_alike operator.Join f g = alike_size (Meeting-same f g)
own_alike operator.Override {P} {Q} {R} {S} f g =
    alike_sum (HasSize P) (Is 2 ⊗ HasSize Q) (HasSize R) (Is 2 ⊗ HasSize S) (alike_size f)
    (alike_product (Is 2) (HasSize Q) (Is 2) (HasSize S) (alike_itself (Is 2)) (alike_size g))
own_alike operator.Dom f g = alike_size g
own_alike operator.Ran f g = alike_size f

turn_alike : (o : UnaryOperator) {P R : Pred} → Same P R → Alike (turn_terms o P) (turn_terms o R)
turn_alike unary_operator.Transpose f = alike_size f
turn_alike unary_operator.Closure {P} {R} f =
    alike_product (Is 6) (HasSize (Meeting (Closed P) (Closed P))) (Is 6) (HasSize (Meeting (Closed R) (Closed R)))
    (alike_itself (Is 6)) (alike_size (Meeting-same (Closed-same f) (Closed-same f)))

pub combined_counted : (o : Operator) {l r v : Rows} {n m : ℕ} {P Q : Pred} {C D : Number} {b x y a : ℕ} → IsCounted l n P C b x → IsCounted r m Q D x y →
    IsCounted v (arity_with o l.arity r.arity) (may_combine o (Contains l.rows) (Contains r.rows)) (own_terms o (Contains l.rows) (Contains r.rows)) y a →
    IsCounted v (arity_with o n m) (may_combine o P Q) (C ⊕ D ⊕ own_terms o P Q) b a
combined_counted o {l} {r} {v} {n} {m} {P} {Q} f g is =
    binary (arity_with o n m) (may_combine o P Q) (own_terms o P Q) (ap (λ k. arity_with o k r.arity) f.arity_is ∙ ap (arity_with o n) g.arity_is) f g is (may_combine_same o) (own_alike o)

pub turned_counted : (o : UnaryOperator) {l v : Rows} {n : ℕ} {P : Pred} {C : Number} {b x a : ℕ} → IsCounted l n P C b x →
    IsCounted v 2 (turned o (Contains l.rows)) (turn_terms o (Contains l.rows)) x a → IsCounted v 2 (turned o P) (C ⊕ turn_terms o P) b a
turned_counted o {P = P} f is = unary 2 (turned o P) (turn_terms o P) refl f is (turned_same o) (turn_alike o)
