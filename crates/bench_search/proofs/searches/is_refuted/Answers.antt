use Rattle.std.proofs.Common.{rules, ◌↔◌}
use Rattle.std.specs.Prelude.{IsTrue}
use Rattle.refutation_check.specs.Chain.{IsRefutation}
use Rattle.bench_search.proofs.searches.is_refuted.Goals as goal

pub returns-clause-none : goal.returns-clause-none
returns-clause-none c =
    let log : IsTrue c.eq.result ↔ IsRefutation c.args.f.now.clauses c.args.log.now = search rules in
    λ is. c.accepted_is_entailed.ensures.refuted c.args.f.now.clauses c.args.log.now (log.0 is)
