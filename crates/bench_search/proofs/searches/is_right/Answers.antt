use Rattle.std.proofs.Common.{sym, subst}
use Rattle.cnf_core.specs.Valuation.{value_of}
use Rattle.sat_core.specs.declared.search.Answer.{Answer}
use Rattle.bench_search.specs.Answers.{IsTold, end_of}
use Rattle.bench_search.proofs.searches.is_right.Goals as goal

pub returns-in-Found : goal.returns-in-Found
returns-in-Found c = λ is. subst (λ (a : Answer). IsTold c.args.f.now.clauses (end_of a)) (sym c.in-Found.is) (value_of c.in-Found.valuation, c.is_satisfied.ensures is)
