-- Formulas about sets.
use Rattle.std.proofs.Common.{◌≡◌, ◌<◌, ℕ, List, [], ◌∷◌, All, map, length, sym, ◌∙◌, subst, arith}
use Rattle.std.proofs.lemmas.List.Elements.{All-cons, All-nil}
use Rattle.rel_formula.specs.declared.formula.Formula.{Formula}
use Rattle.rel_formula.specs.Kernel.{rel, within, equal, at_least, meet, disjunction, formulas_of}
use Rattle.rel_formula.specs.View.{formula_tree}
use Rattle.rel_formula.specs.Shape.{IsProper}
use Rattle.rel_formula.proofs.AndOrParts.{are_proper}
use Rattle.bench_search.specs.Sets.{IsAbout}

module _ (count a b : ℕ) (left : a < count) (right : b < count) where
  pub within_about : IsAbout count (within (rel a) (rel b))
  within_about ns long ones =
      let l : a < length ns = omega (arith, long, left) in
      let r : b < length ns = omega (arith, long, right) in
      (l, r, ones a 0 l ∙ sym (ones b 0 r))

  pub equal_about : IsAbout count (equal (rel a) (rel b))
  equal_about ns long ones = within_about ns long ones

  pub shared_about : IsAbout count (at_least 1 (meet (rel a) (rel b)))
  shared_about ns long ones = within_about ns long ones

pub some_about : (count a : ℕ) → a < count → IsAbout count (at_least 1 (rel a))
some_about count a left ns long ones = omega (arith, long, left)

-- one of two is true
pub either_about : (count : ℕ) (fs : List Formula) (one other : Formula) → fs ≡ one ∷ other ∷ [] → IsAbout count (formula_tree one) → IsAbout count (formula_tree other) → IsAbout count (disjunction (formulas_of (map formula_tree fs)))
either_about count fs one other e first second ns long ones =
    let P : Formula → Type 0 = λ f. IsProper ns 0 (formula_tree f) in
    (are_proper ns 0 fs).1 (subst (All P) (sym e) (All-cons P one (other ∷ []) (first ns long ones) (All-cons P other [] (second ns long ones) (All-nil P))))
