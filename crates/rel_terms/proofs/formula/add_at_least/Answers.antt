use Rattle.rel_terms.proofs.FormulaTerms.{at_least_adds}
use Rattle.rel_terms.proofs.formula.add_at_least.Goals as goal

pub returns : goal.returns
returns c = at_least_adds c.args.n c.rows.result.now c.rows.ensures.well c.rows.ensures.value c.in_ok-set.ensures c.add_product.ensures
