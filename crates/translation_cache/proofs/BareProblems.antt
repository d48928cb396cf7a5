-- Problems without relations: the formula is one that is always true, or one that never is.
use Rattle.std.proofs.Common.{◌≡◌, ◌⊎◌, inl, inr, ◌<◌, ◌≤◌, ◌^◌, ℕ, List, [], All, length, refl, sym, subst, arith, lit≤}
use Rattle.std.proofs.lemmas.List.Elements.{All-nil}
use Rattle.tuple_core.specs.declared.atom.Atom.{Atom}
use Rattle.rel_formula.specs.declared.problem.Relation.{Relation}
use Rattle.rel_formula.specs.Kernel.{FormulaTree, conjunction, disjunction, no_formulas}
use Rattle.rel_formula.specs.Shape.{IsProper}
use Rattle.rel_formula.specs.Bounds.{Bounded, IsAtomOf, IsRelation, IsProblem, relation_at}
use Rattle.rel_formula.specs.Renaming.{IsSymmetric}
use Rattle.rel_formula.proofs.Lists.{pairs_nil}
use Rattle.rel_terms.specs.Terms.{HasTerms, IsTranslatable}

abbrev pub bare : FormulaTree → Bounded
bare f = record { relations = []; tops = []; formula = f }

abbrev pub made_of : List Relation → List ℕ → FormulaTree → Bounded
made_of relations tops f = record { relations = relations; tops = tops; formula = f }

abbrev pub IsConstant : FormulaTree → Type 0
IsConstant f = (f ≡ conjunction no_formulas) ⊎ (f ≡ disjunction no_formulas)

pub no_atoms : (f : FormulaTree) (a : Atom) → IsAtomOf (bare f) a → ⊥
no_atoms f a h = let inside = h.1.1 in omega arith

pub is_problem : (f : FormulaTree) → IsConstant f → IsProblem (bare f)
is_problem f constant = record {
  few = omega arith;
  few_cells = omega arith;
  relations = All-nil IsRelation;
  names = pairs_nil (λ (r s : Relation). r.name ≡ s.name → ⊥);
  tops = All-nil (λ (r : ℕ). r < 0);
  unary = All-nil (λ (r : ℕ). (relation_at [] r).upper.arity ≡ 1);
  rising = pairs_nil (λ (r s : ℕ). r < s);
  atoms = λ a h. absurd (no_atoms f a h);
  proper = elim constant [ inl e ↦ subst (IsProper [] 0) (sym e) tt | inr e ↦ subst (IsProper [] 0) (sym e) tt ];
}

pub is_symmetric : (f : FormulaTree) → IsSymmetric (bare f)
is_symmetric f there back renaming = record {
  lower = λ r t. (λ h. absurd (let inside = h.1 in omega arith), λ h. absurd (let inside = h.1 in omega arith));
  upper = λ r t. (λ h. absurd (let inside = h.1 in omega arith), λ h. absurd (let inside = h.1 in omega arith));
}

one_term : (f : FormulaTree) → IsConstant f → HasTerms (bare f) 1
one_term f constant = elim constant [
  | inl e ↦ subst (λ (g : FormulaTree). HasTerms (bare g) 1) (sym e) (1, 0, refl, refl, refl)
  | inr e ↦ subst (λ (g : FormulaTree). HasTerms (bare g) 1) (sym e) (1, 0, refl, refl, refl)
]

pub is_translatable : (f : FormulaTree) → IsConstant f → IsTranslatable (bare f)
is_translatable f constant = record {
  few_atoms = ([], omega arith, λ a h. absurd (no_atoms f a h));
  disjoint_tops = λ r s t h. absurd (let inside = h.1 in omega arith);
  few_terms = (1, one_term f constant, lit≤ tt);
}
