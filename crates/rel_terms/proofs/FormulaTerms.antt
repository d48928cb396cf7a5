-- The numbers of terms of the formulas over expressions and of the quantifiers.
use Rattle.std.proofs.Common.{◌≡◌, ℕ, ◌+◌, ◌*◌, List, Contains, length, ◌∙◌, subst, arith}
use Rattle.tuple_core.specs.declared.atom.Atom.{Atom}
use Rattle.tuple_core.specs.Operators.{Pred}
use Rattle.tuple_core.specs.Gains.{Same}
use Rattle.tuple_core.specs.Rows.{Rows, IsRows}
use Rattle.rel_formula.specs.declared.connectives.Comparison.{Comparison}
use Rattle.rel_formula.specs.declared.connectives.Comparison.TheVariants as comparison
use Rattle.rel_formula.specs.Kernel.{FormulaTree}
use Rattle.rel_formula.specs.Meaning.{Structure}
use Rattle.rel_formula.specs.Sizes.{HasSize}
use Rattle.rel_terms.specs.Numbers.{Number, Is, ◌⊕◌, ◌⊗◌}
use Rattle.rel_terms.specs.Terms.{SumsOver, compared_terms}
use Rattle.rel_terms.specs.Counting.{Adds, IsCounted, RowsHave}
use Rattle.rel_terms.proofs.Numbers.{only_is, only_product}
use Rattle.rel_terms.proofs.TupleSizes.{rows_size, rows_list}
use Rattle.rel_terms.proofs.Adding.{adds_then, adds_both, adds_only}
use Rattle.rel_terms.proofs.Counted.{Alike, adds_alike, alike_size, alike_sum, counted_same}
use Rattle.rel_terms.proofs.PartTerms.{AtomHas, rows_sums}

compared_alike : (c : Comparison) {P Q R S : Pred} → Same P R → Same Q S → Alike (compared_terms c P Q) (compared_terms c R S)
compared_alike comparison.In f g = alike_size f
compared_alike comparison.Equal {P} {Q} {R} {S} f g = alike_sum (HasSize P) (HasSize Q) (HasSize R) (HasSize S) (alike_size f) (alike_size g)

-- a comparison of operands that were counted before
pub compared_adds : (c : Comparison) {l r : Rows} {n m : ℕ} {P Q : Pred} {C D : Number} {b x y a : ℕ} → IsCounted l n P C b x → IsCounted r m Q D x y →
    Adds (compared_terms c (Contains l.rows) (Contains r.rows)) y a → Adds (C ⊕ D ⊕ compared_terms c P Q) b a
compared_adds c {l} {r} {P = P} {Q = Q} {C = C} {D = D} {b = b} {x = x} {y = y} {a = a} f g own =
    adds_then (C ⊕ D) (compared_terms c P Q) b y a (adds_both C D b x y f.adds g.adds) own.rises (λ low.
    let rise = g.adds.rises in
    adds_alike (compared_terms c (Contains l.rows) (Contains r.rows)) (compared_terms c P Q) y a (compared_alike c (counted_same f (omega arith)) (counted_same g low)) own)

pub at_least_adds : {v : Rows} {n : ℕ} {P : Pred} {C : Number} {b x a : ℕ} (m : ℕ) (rows : List (List Atom)) → IsRows v → rows ≡ v.rows → IsCounted v n P C b x → Adds (Is (length rows * (m + 1))) x a → Adds (C ⊕ HasSize P ⊗ Is (m + 1)) b a
at_least_adds {v = v} {P = P} {C = C} {b = b} {x = x} {a = a} m rows well e h product =
    adds_then C (HasSize P ⊗ Is (m + 1)) b x a h.adds product.rises (λ l.
    let size = rows_size {P = P} well (record { arity_is = h.arity_is; just = h.just l }) in
    adds_only (HasSize P ⊗ Is (m + 1)) (length v.rows * (m + 1)) x a (only_product (HasSize P) (Is (m + 1)) (length v.rows) (m + 1) size (only_is (m + 1)))
    (subst (λ (zs : List (List Atom)). Adds (Is (length zs * (m + 1))) x a) e product))

-- a sum over the domain, which is a unary set
pub each_adds : {v : Rows} {n : ℕ} {P : Pred} {C : Number} {b x a : ℕ} (M : Structure) (env : List Atom) (more : ℕ) (f : FormulaTree) (rows : List (List Atom)) → n ≡ 1 → IsRows v → rows ≡ v.rows →
    IsCounted v n P C b x → Adds (RowsHave M env more f rows) x a → Adds (C ⊕ SumsOver P (AtomHas M env more f)) b a
each_adds {v = v} {P = P} {C = C} {b = b} {x = x} {a = a} M env more f rows unary well e h sums =
    adds_then C (SumsOver P (AtomHas M env more f)) b x a h.adds sums.rises (λ l.
    let list = rows_list {P = P} well (record { arity_is = h.arity_is; just = h.just l }) in
    adds_alike (RowsHave M env more f v.rows) (SumsOver P (AtomHas M env more f)) x a (rows_sums M env more f P v.rows (λ k d q. well.arities k d q ∙ h.arity_is ∙ unary) list)
    (subst (λ zs. Adds (RowsHave M env more f zs) x a) e sums))
