-- The numbers of terms and the upper values of the expressions without operands.
use Rattle.std.proofs.Common.{◌≡◌, ℕ, ◌-◌, ◌<◌, List, [], ◌∷◌, Contains, length, get_or, reverse, Some, slice_get, refl, sym, ◌∙◌, ap, subst, arith}
use Rattle.std.proofs.lemmas.List.{get_or-map, get_or_default, get_or-reverse, length-reverse, length-map}
use Rattle.std.specs.declared.cmp.Ordering.TheVariants.{Less}
use Rattle.tuple_core.specs.declared.atom.Atom.{Atom}
use Rattle.tuple_core.specs.Operators.{Pred}
use Rattle.tuple_core.specs.Gains.{Same}
use Rattle.tuple_core.specs.Order.{tuple_cmp}
use Rattle.tuple_core.specs.Rows.{Rows}
use Rattle.rel_formula.specs.declared.problem.Relation.{Relation}
use Rattle.rel_formula.specs.Bounds.{Bounded, IsProblem, relation_at}
use Rattle.rel_formula.specs.Sizes.{HasSize}
use Rattle.rel_formula.proofs.Lists.{get-Some, some_at, pairs_nil}
use Rattle.rel_formula.proofs.Tabled.{no_relation}
use Rattle.rel_terms.specs.Upper.{InUpperSet, IsAtomAt}
use Rattle.rel_terms.specs.Counting.{IsCounted, arities_of}
use Rattle.rel_terms.proofs.Numbers.{only}
use Rattle.rel_terms.proofs.TupleSizes.{size_once}
use Rattle.rel_terms.proofs.Adding.{adds_only, adds_none}
use Rattle.rel_terms.proofs.Counted.{adds_alike, alike_size}

-- a set that is counted under another name
pub leaf_counted : {v : Rows} {n : ℕ} {b a : ℕ} (m : ℕ) (P Q : Pred) → n ≡ m → Same P Q → IsCounted v n P (HasSize P) b a → IsCounted v m Q (HasSize Q) b a
leaf_counted {b = b} {a = a} m P Q e s h = record {
  arity_is = h.arity_is ∙ e;
  just = λ l t. (λ c. s.to t ((h.just l t).0 c), λ q. (h.just l t).1 (s.back t q));
  adds = adds_alike (HasSize P) (HasSize Q) b a (alike_size s) h.adds;
}

pub relation_counted : (p : Bounded) (r : ℕ) (x : Relation) (v : Rows) (b a : ℕ) → IsProblem p → r < length (arities_of p) → x ≡ get_or p.relations r x →
    IsCounted v x.upper.arity (Contains x.upper.rows) (HasSize (Contains x.upper.rows)) b a → IsCounted v (get_or (arities_of p) r 0) (InUpperSet p r) (HasSize (InUpperSet p r)) b a
relation_counted p r x v b a well there e h =
    let l : r < length p.relations = let n = length-map p.relations (λ (s : Relation). s.lower.arity) in omega arith in
    let same : x ≡ relation_at p.relations r = e ∙ get_or_default p.relations r x no_relation l in
    let named = subst (λ (y : Relation). IsCounted v y.upper.arity (Contains y.upper.rows) (HasSize (Contains y.upper.rows)) b a) same h in
    record {
      arity_is = named.arity_is ∙ (well.relations r no_relation l).arity ∙ sym (get_or-map (λ (s : Relation). s.lower.arity) p.relations r no_relation 0 l);
      just = named.just;
      adds = named.adds;
    }

pub variable_same : (env : List Atom) (i : ℕ) (a d : Atom) → i < length env → a ≡ get_or env (length env - 1 - i) d → Same (λ t. t ≡ a ∷ []) (IsAtomAt (reverse env) i)
variable_same env i a d l is =
    let m : i < length (reverse env) = let e = length-reverse env in omega arith in
    let at : slice_get (reverse env) i ≡ Some a = get-Some (reverse env) i d m ∙ ap (λ b. Some b) (get_or-reverse env i d l ∙ sym is) in
    record {
      to = λ t e. (a, at, e);
      back = λ t h. h.2 ∙ ap (λ b. b ∷ []) (sym (some_at (reverse env) i h.0 d h.1) ∙ some_at (reverse env) i a d at);
    }

pub nothing_counted : {v : Rows} {b : ℕ} → v.arity ≡ 1 → v.rows ≡ [] → IsCounted v 1 (λ t. ⊥) (HasSize (λ t. ⊥)) b b
nothing_counted {v} {b} one none =
    let N : Pred = λ t. ⊥ in
    let empty : HasSize N 0 = ([], record { ascending = pairs_nil (λ s t. tuple_cmp s t ≡ Less); just = λ t. (λ c. let l = c.1 in omega arith, λ h. absurd h) }, refl) in
    record {
      arity_is = one;
      just = λ l t. (λ c. let h = (subst (λ rows. Contains rows t) none c).1 in omega arith, λ h. absurd h);
      adds = adds_only (HasSize N) 0 b b (only (HasSize N) 0 (size_once N) empty) (adds_none b);
    }

pub doubled_same : (P Q : Pred) → Same P Q → Same (λ t. (a : Atom) × P (a ∷ []) × (t ≡ a ∷ a ∷ [])) (λ t. (a : Atom) × Q (a ∷ []) × (t ≡ a ∷ a ∷ []))
doubled_same P Q s = record {
  to = λ t h. (h.0, s.to (h.0 ∷ []) h.1, h.2);
  back = λ t h. (h.0, s.back (h.0 ∷ []) h.1, h.2);
}
