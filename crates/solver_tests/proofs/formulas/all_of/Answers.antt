use Rattle.std.proofs.Common.{◌∷◌, [], sym, subst}
use Rattle.rel_formula.specs.Shape.{IsProper}
use Rattle.rel_formula.proofs.AndOrParts.{are_proper}
use Rattle.solver_tests.proofs.formulas.all_of.Goals as goal

pub returns : goal.returns
returns c = subst (IsProper (1 ∷ 1 ∷ []) 0) (sym c.all_of.ensures) ((are_proper (1 ∷ 1 ∷ []) 0 c.args.parts.items).1 c.requires)
