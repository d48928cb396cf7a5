use Rattle.std.proofs.Common.{◌∷◌, [], sym, subst}
use Rattle.rel_formula.specs.Shape.{IsProper}
use Rattle.rel_formula.proofs.AndOrParts.{are_proper}
use Rattle.translation_tests.proofs.of_evaluation.holds_any.Goals as goal

pub truth_of-requires : goal.truth_of-requires
truth_of-requires c = subst (IsProper (1 ∷ 1 ∷ 2 ∷ 2 ∷ 1 ∷ []) 0) (sym c.any_of.ensures) ((are_proper (1 ∷ 1 ∷ 2 ∷ 2 ∷ 1 ∷ []) 0 c.in_ok-formulas.formulas.items).1 c.in_ok-formulas.ensures)
