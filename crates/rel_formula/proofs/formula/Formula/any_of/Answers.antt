use Rattle.rel_formula.proofs.AndOrParts.{Or-tree}
use Rattle.rel_formula.proofs.formula.Formula.any_of.Goals as goal

pub returns : goal.returns
returns c = Or-tree c.args.parts
