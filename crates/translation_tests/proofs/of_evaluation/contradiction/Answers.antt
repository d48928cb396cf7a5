use Rattle.std.proofs.Common.{◌∷◌, [], sym, subst}
use Rattle.rel_formula.specs.Shape.{IsProper}
use Rattle.rel_formula.proofs.AndOrParts.{are_proper}
use Rattle.translation_tests.proofs.of_evaluation.contradiction.Goals as goal

pub returns : goal.returns
returns c = subst (IsProper (1 ∷ 1 ∷ 2 ∷ 2 ∷ 1 ∷ []) 0) (sym c.any_of.ensures) ((are_proper (1 ∷ 1 ∷ 2 ∷ 2 ∷ 1 ∷ []) 0 c.no_formulas.result.items).1 (c.no_formulas.ensures (1 ∷ 1 ∷ 2 ∷ 2 ∷ 1 ∷ [])))
