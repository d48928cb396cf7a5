use Rattle.rel_terms.proofs.FormulaTerms.{compared_adds}
use Rattle.rel_terms.proofs.formula.add_compared.Goals as goal

pub returns : goal.returns
returns c = compared_adds c.args.comparison c.in_ok-left.ensures c.in_ok-right.ensures c.add_sizes.ensures
