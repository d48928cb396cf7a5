-- Operators on sets that have the same tuples.
use Rattle.std.proofs.Common.{◌≡◌, ℕ, List, [], ◌∷◌, inl, inr, ◌↔◌, Contains, ◌∙◌, ap, refl}
use Rattle.tuple_core.specs.declared.atom.Atom.{Atom}
use Rattle.tuple_core.specs.declared.operator.Operator.{Operator}
use Rattle.tuple_core.specs.declared.operator.Operator.TheVariants as operator
use Rattle.tuple_core.specs.declared.operator.UnaryOperator.{UnaryOperator}
use Rattle.tuple_core.specs.declared.operator.UnaryOperator.TheVariants as unary_operator
use Rattle.tuple_core.specs.Operators.{Pred, United, Without, Met, Joined, Multiplied, Transposed, Walk, Closed, IsFirstIn, Overridden, DomainIn, RangeIn, Moved, combined, may_combine, turned, arity_with}
use Rattle.tuple_core.specs.Gains.{Same}
use Rattle.tuple_core.specs.Rows.{Rows, IsSetOf}

pub same_itself : (P : Pred) → Same P P
same_itself P = record { to = λ t p. p; back = λ t p. p }

pub same_back : {P Q : Pred} → Same P Q → Same Q P
same_back s = record { to = s.back; back = s.to }

pub same_then : {P Q R : Pred} → Same P Q → Same Q R → Same P R
same_then f g = record { to = λ t p. g.to t (f.to t p); back = λ t r. f.back t (g.back t r) }

united : {P Q R S : Pred} → Same P R → Same Q S → (t : List Atom) → United P Q t → United R S t
united f g t u = elim u [ inl p ↦ inl (f.to t p) | inr q ↦ inr (g.to t q) ]

pub United-same : {P Q R S : Pred} → Same P R → Same Q S → Same (United P Q) (United R S)
United-same f g = record { to = united f g; back = united (same_back f) (same_back g) }

pub Without-same : {P Q R S : Pred} → Same P R → Same Q S → Same (Without P Q) (Without R S)
Without-same f g = record { to = λ t w. (f.to t w.0, λ s. w.1 (g.back t s)); back = λ t w. (f.back t w.0, λ q. w.1 (g.to t q)) }

pub Met-same : {P Q R S : Pred} → Same P R → Same Q S → Same (Met P Q) (Met R S)
Met-same f g = record { to = λ t m. (f.to t m.0, g.to t m.1); back = λ t m. (f.back t m.0, g.back t m.1) }

pub Joined-same : {P Q R S : Pred} → Same P R → Same Q S → Same (Joined P Q) (Joined R S)
Joined-same f g = record { to = λ t j. (j.0, j.1, f.to j.0 j.2, g.to j.1 j.3, j.4); back = λ t j. (j.0, j.1, f.back j.0 j.2, g.back j.1 j.3, j.4) }

pub Multiplied-same : {P Q R S : Pred} → Same P R → Same Q S → Same (Multiplied P Q) (Multiplied R S)
Multiplied-same f g = record { to = λ t j. (j.0, j.1, f.to j.0 j.2, g.to j.1 j.3, j.4); back = λ t j. (j.0, j.1, f.back j.0 j.2, g.back j.1 j.3, j.4) }

pub Transposed-same : {P R : Pred} → Same P R → Same (Transposed P) (Transposed R)
Transposed-same f = record { to = λ t p. (p.0, p.1, f.to (p.0 ∷ p.1 ∷ []) p.2, p.3); back = λ t p. (p.0, p.1, f.back (p.0 ∷ p.1 ∷ []) p.2, p.3) }

walk : (P R : Pred) → ((t : List Atom) → P t → R t) → (x : Atom) (ms : List Atom) (y : Atom) → Walk P x ms y → Walk R x ms y
walk P R f x [] y w = f (x ∷ y ∷ []) w
walk P R f x (m ∷ ms) y w = (f (x ∷ m ∷ []) w.0, walk P R f m ms y w.1)

pub Closed-same : {P R : Pred} → Same P R → Same (Closed P) (Closed R)
Closed-same {P} {R} f = record {
  to = λ t c. (c.0, c.1, c.2, c.3, walk P R f.to c.0 c.1 c.2 c.4);
  back = λ t c. (c.0, c.1, c.2, c.3, walk R P f.back c.0 c.1 c.2 c.4);
}

pub IsFirstIn-same : {P R : Pred} → Same P R → (x : Atom) → IsFirstIn P x ↔ IsFirstIn R x
IsFirstIn-same f x = (λ i. (i.0, f.to i.0 i.1, i.2), λ i. (i.0, f.back i.0 i.1, i.2))

overridden : {P Q R S : Pred} → Same P R → Same Q S → (t : List Atom) → Overridden P Q t → Overridden R S t
overridden f g t o = elim o [ inl q ↦ inl (g.to t q) | inr p ↦ inr (f.to t p.0, λ x b i. p.1 x b ((IsFirstIn-same g x).1 i)) ]

pub Overridden-same : {P Q R S : Pred} → Same P R → Same Q S → Same (Overridden P Q) (Overridden R S)
Overridden-same f g = record { to = overridden f g; back = overridden (same_back f) (same_back g) }

pub DomainIn-same : {P Q R S : Pred} → Same P R → Same Q S → Same (DomainIn P Q) (DomainIn R S)
DomainIn-same f g = record {
  to = λ t d. (g.to t d.0, (d.1.0, d.1.1, f.to (d.1.0 ∷ []) d.1.2));
  back = λ t d. (g.back t d.0, (d.1.0, d.1.1, f.back (d.1.0 ∷ []) d.1.2));
}

pub RangeIn-same : {P Q R S : Pred} → Same P R → Same Q S → Same (RangeIn P Q) (RangeIn R S)
RangeIn-same f g = record {
  to = λ t d. (f.to t d.0, (d.1.0, d.1.1, g.to (d.1.0 ∷ []) d.1.2));
  back = λ t d. (f.back t d.0, (d.1.0, d.1.1, g.back (d.1.0 ∷ []) d.1.2));
}

pub Moved-same : {P R : Pred} (m : Atom → Atom) → Same P R → Same (Moved m P) (Moved m R)
Moved-same m f = record { to = λ t i. (i.0, f.to i.0 i.1, i.2); back = λ t i. (i.0, f.back i.0 i.1, i.2) }

-- the rows of a set are the tuples of its fact
pub rows_same : {v : Rows} {n : ℕ} {P : Pred} → IsSetOf v n P → Same (Contains v.rows) P
rows_same is = record { to = λ t. (is.just t).0; back = λ t. (is.just t).1 }

pub set_of_same : {v : Rows} {n m : ℕ} {P Q : Pred} → n ≡ m → Same P Q → IsSetOf v n P → IsSetOf v m Q
set_of_same e s is = record { arity_is = is.arity_is ∙ e; just = λ t. (λ c. s.to t ((is.just t).0 c), λ q. (is.just t).1 (s.back t q)) }

-- an operator on sets that have the same tuples
pub combined_same : (o : Operator) {P Q R S : Pred} → Same P R → Same Q S → Same (combined o P Q) (combined o R S)
combined_same operator.Union f g = United-same f g
combined_same operator.Minus f g = Without-same f g
combined_same operator.Meet f g = Met-same f g
combined_same operator.Product f g = Multiplied-same f g
combined_same operator.Join f g = Joined-same f g
combined_same operator.Override f g = Overridden-same f g
combined_same operator.Dom f g = DomainIn-same f g
combined_same operator.Ran f g = RangeIn-same f g

pub may_combine_same : (o : Operator) {P Q R S : Pred} → Same P R → Same Q S → Same (may_combine o P Q) (may_combine o R S)
may_combine_same operator.Union f g = United-same f g
may_combine_same operator.Minus f g = f
may_combine_same operator.Meet f g = Met-same f g
may_combine_same operator.Product f g = Multiplied-same f g
may_combine_same operator.Join f g = Joined-same f g
may_combine_same operator.Override f g = United-same f g
may_combine_same operator.Dom f g = DomainIn-same f g
may_combine_same operator.Ran f g = RangeIn-same f g

pub turned_same : (o : UnaryOperator) {P R : Pred} → Same P R → Same (turned o P) (turned o R)
turned_same unary_operator.Transpose f = Transposed-same f
turned_same unary_operator.Closure f = Closed-same f

pub combined_is : (o : Operator) {l r v : Rows} {n m : ℕ} {P Q : Pred} → IsSetOf l n P → IsSetOf r m Q →
    IsSetOf v (arity_with o l.arity r.arity) (combined o (Contains l.rows) (Contains r.rows)) → IsSetOf v (arity_with o n m) (combined o P Q)
combined_is o {l} {r} {v} {n} {m} f g is =
    set_of_same (ap (λ k. arity_with o k r.arity) f.arity_is ∙ ap (arity_with o n) g.arity_is) (combined_same o (rows_same f) (rows_same g)) is

pub turned_is : (o : UnaryOperator) {l v : Rows} {n : ℕ} {P : Pred} → IsSetOf l n P → IsSetOf v 2 (turned o (Contains l.rows)) → IsSetOf v 2 (turned o P)
turned_is o f is = set_of_same refl (turned_same o (rows_same f)) is
