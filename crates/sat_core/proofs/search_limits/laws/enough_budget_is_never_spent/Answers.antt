use Rattle.std.proofs.Common.{arith}
use Rattle.refutation_check.specs.Chain.{members_of}
use Rattle.sat_core.proofs.Limits.ClauseCounts.{few}
use Rattle.sat_core.proofs.search_limits.laws.enough_budget_is_never_spent.Goals as goal

pub returns : goal.returns
returns c vars first clauses pool log budget is over enough right =
    let less = few vars (members_of clauses pool) log is.clauses over right.1 right.2 in
    absurd (omega (arith, less, enough, right.0))
