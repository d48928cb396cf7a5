use Rattle.std.proofs.Common.{ℕ, ◌∷◌, []}
use Rattle.rel_formula.specs.Shape.{IsProper}
use Rattle.rel_formula.specs.View.{formula_tree}
use Rattle.translation_tests.proofs.of_rel_terms.nested.Given as goal

abbrev pub invariant-loop : goal.invariant-loop
invariant-loop l = (d : ℕ) → IsProper (1 ∷ []) d (formula_tree l.formula)
