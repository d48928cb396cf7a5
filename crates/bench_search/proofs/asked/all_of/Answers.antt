use Rattle.std.proofs.Common.{sym, subst}
use Rattle.rel_formula.specs.Shape.{IsProper}
use Rattle.rel_formula.proofs.AndOrParts.{are_proper}
use Rattle.bench_search.proofs.asked.all_of.Goals as goal

pub returns : goal.returns
returns c = λ ns long ones. subst (IsProper ns 0) (sym c.all_of.ensures) ((are_proper ns 0 c.args.parts.items).1 (λ k d h. c.requires k d h ns long ones))
