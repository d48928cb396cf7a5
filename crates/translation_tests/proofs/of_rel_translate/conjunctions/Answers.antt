use Rattle.std.proofs.Common.{◌∷◌, [], sym, subst}
use Rattle.rel_formula.specs.Shape.{IsProper}
use Rattle.rel_formula.proofs.AndOrParts.{are_proper}
use Rattle.translation_tests.proofs.of_rel_translate.conjunctions.Goals as goal

pub agrees-requires : goal.agrees-requires
agrees-requires g c = subst (IsProper (1 ∷ 2 ∷ []) 0) (sym c.all_of-all.ensures) ((are_proper (1 ∷ 2 ∷ []) 0 c.in_ok-none_and_some.field-0.items).1 c.in_ok-none_and_some.ensures)
