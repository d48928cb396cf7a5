use Rattle.rel_formula.proofs.AndOrParts.{And-tree}
use Rattle.rel_formula.proofs.formula.Formula.all_of.Goals as goal

pub returns : goal.returns
returns c = And-tree c.args.parts
