use Rattle.bench_search.proofs.SearchLemmas.{made_over}
use Rattle.bench_search.proofs.formulas.clause_of.Goals as goal

pub returns : goal.returns
returns c = made_over c.args.vars c.in_ok-of.field-0 c.args.lits.now c.in_ok-of.ensures.same (λ k d h. (c.requires.lits k d h).1)
