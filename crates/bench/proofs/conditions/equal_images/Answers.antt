use Rattle.std.proofs.Common.{◌∷◌, [], sym, subst}
use Rattle.rel_formula.specs.Shape.{IsProper}
use Rattle.rel_formula.proofs.AndOrParts.{are_proper}
use Rattle.bench.proofs.conditions.equal_images.Goals as goal

pub some_two-requires : goal.some_two-requires
some_two-requires c = subst (IsProper (1 ∷ 3 ∷ []) 2) (sym c.all_of-both.ensures) ((are_proper (1 ∷ 3 ∷ []) 2 c.in_ok-equal_and_its_own.field-0.items).1 c.in_ok-equal_and_its_own.ensures)
