-- Problems of two sets of the same atoms.
use Rattle.std.proofs.Common.{◌≡◌, ◌≢◌, inl, inr, ◌*◌, ◌<◌, ◌≤◌, ◌∷◌, [], ℕ, List, All, AllPairs, get_or, sym, ◌∙◌, ap, subst, arith, length, refl}
use Rattle.std.proofs.lemmas.List.Elements.{All-cons, All-nil}
use Rattle.std.proofs.lemmas.List.Kept.{AllPairs-cons}
use Rattle.tuple_core.specs.declared.atom.Atom.{Atom}
use Rattle.tuple_core.specs.Rows.{Rows, IsRows}
use Rattle.rel_formula.specs.declared.problem.Relation.{Relation}
use Rattle.rel_formula.specs.Kernel.{FormulaTree}
use Rattle.rel_formula.specs.Shape.{IsProper}
use Rattle.rel_formula.specs.Bounds.{IsProblem}
use Rattle.rel_formula.specs.Renaming.{IsSymmetric}
use Rattle.rel_formula.proofs.Lists.{pairs_nil}
use Rattle.rel_formula.proofs.Unary.{IsSetOver, any_set, whole_set, sets_problem, sets_symmetric}
use Rattle.solver_tests.specs.Sets.{IsSet, AreTwoSets}

names_apart : (a b : Relation) (x y : List ℕ) → a.name ≡ x → b.name ≡ y → x ≢ y → AllPairs (λ (r s : Relation). r.name ≢ s.name) (a ∷ b ∷ [])
names_apart a b x y p q differ =
    let Differ : Relation → Relation → Type 0 = λ r s. r.name ≢ s.name in
    let here : a.name ≢ b.name = λ e. differ (sym p ∙ e ∙ q) in
    AllPairs-cons Differ a (b ∷ []) (All-cons (Differ a) b [] here (All-nil (Differ a)))
    (AllPairs-cons Differ b [] (All-nil (Differ b)) (pairs_nil Differ))

set_over : (all : Rows) → IsRows all → all.arity ≡ 1 → (name : List ℕ) (r : Relation) → IsSet all name r → IsSetOver all r
set_over all rows one name r is = elim is.lower [ inl whole ↦ whole_set all r rows one whole is.upper | inr none ↦ any_set all r is.arity none is.upper ]

first_differs : (xs ys : List ℕ) → (get_or xs 0 0 ≡ get_or ys 0 0 → ⊥) → xs ≢ ys
first_differs xs ys h e = h (ap (λ zs. get_or zs 0 0) e)

some_few : (n : ℕ) → n ≤ 1024 → 2 * n ≤ 4096
some_few n few = omega arith

two_of : (a b : Relation) → 0 < length (a ∷ b ∷ [])
two_of a b = omega arith

at_most_two : (a b : Relation) → length (a ∷ b ∷ []) ≤ 128
at_most_two a b = omega arith

-- two sets with the names A and B
pub sets_a_b : (all : Rows) (a b : Relation) (rs : List Relation) → rs ≡ a ∷ b ∷ [] → IsSet all (65 ∷ []) a → IsSet all (66 ∷ []) b → AreTwoSets all rs
sets_a_b all a b rs e first second = record {
  first = a;
  second = b;
  one = 65 ∷ [];
  other = 66 ∷ [];
  are = e;
  is_first = first;
  is_second = second;
  apart = first_differs (65 ∷ []) (66 ∷ []) (λ h. omega arith);
}

module _ (all : Rows) (rs : List Relation) (rows : IsRows all) (one : all.arity ≡ 1) (are : AreTwoSets all rs) (formula : FormulaTree) (ts : List ℕ) (tops : ts ≡ 0 ∷ []) where
  over : All (IsSetOver all) (are.first ∷ are.second ∷ [])
  over =
      All-cons (IsSetOver all) are.first (are.second ∷ []) (set_over all rows one are.one are.first are.is_first)
      (All-cons (IsSetOver all) are.second [] (set_over all rows one are.other are.second are.is_second) (All-nil (IsSetOver all)))

  -- what is true of the two is true of the problem
  of_both : (P : (List Relation) → (List ℕ) → Type 0) → P (are.first ∷ are.second ∷ []) (0 ∷ []) → P rs ts
  of_both P p = subst (λ (xs : List Relation). P xs ts) (sym are.are) (subst (λ (ns : List ℕ). P (are.first ∷ are.second ∷ []) ns) (sym tops) p)

  pub two_sets_problem : length all.rows ≤ 1024 → All (All (λ (a : Atom). a.top < 1)) all.rows → IsProper (1 ∷ 1 ∷ []) 0 formula → IsProblem (record { relations = rs; tops = ts; formula = formula })
  two_sets_problem few atoms proper =
      of_both (λ xs ns. IsProblem (record { relations = xs; tops = ns; formula = formula }))
      (sets_problem all rows one (are.first ∷ are.second ∷ []) over formula (two_of are.first are.second) (at_most_two are.first are.second) (some_few (length all.rows) few)
      (names_apart are.first are.second are.one are.other are.is_first.name are.is_second.name are.apart) atoms
      (subst (λ n. IsProper (n ∷ are.second.lower.arity ∷ []) 0 formula) (sym are.is_first.arity) (subst (λ n. IsProper (1 ∷ n ∷ []) 0 formula) (sym are.is_second.arity) proper)))

  pub two_sets_symmetric : IsSymmetric (record { relations = rs; tops = ts; formula = formula })
  two_sets_symmetric =
      of_both (λ xs ns. IsSymmetric (record { relations = xs; tops = ns; formula = formula }))
      (sets_symmetric all rows one (are.first ∷ are.second ∷ []) over formula (two_of are.first are.second))
