use Rattle.std.proofs.Common.{◌∷◌, [], sym, subst}
use Rattle.rel_formula.specs.Shape.{IsProper}
use Rattle.rel_formula.proofs.AndOrParts.{are_proper}
use Rattle.translation_tests.proofs.of_rel_terms.all_of_two_formulas.Goals as goal

pub terms_of-requires : goal.terms_of-requires
terms_of-requires g c = subst (IsProper (1 ∷ []) 0) (sym c.all_of-both.ensures) ((are_proper (1 ∷ []) 0 c.in_ok-two_formulas.field-0.items).1 c.in_ok-two_formulas.ensures)
