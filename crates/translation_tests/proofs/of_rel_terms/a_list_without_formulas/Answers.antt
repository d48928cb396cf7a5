use Rattle.std.proofs.Common.{◌∷◌, [], sym, subst}
use Rattle.rel_formula.specs.Shape.{IsProper}
use Rattle.rel_formula.proofs.AndOrParts.{are_proper}
use Rattle.translation_tests.proofs.of_rel_terms.a_list_without_formulas.Goals as goal

pub terms_of-requires : goal.terms_of-requires
terms_of-requires g c = subst (IsProper (1 ∷ []) 0) (sym c.all_of-empty.ensures) ((are_proper (1 ∷ []) 0 c.no_formulas.result.items).1 (c.no_formulas.ensures (1 ∷ [])))
