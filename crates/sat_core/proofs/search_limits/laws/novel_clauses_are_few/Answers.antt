use Rattle.sat_core.proofs.Limits.ClauseCounts.{few}
use Rattle.sat_core.proofs.search_limits.laws.novel_clauses_are_few.Goals as goal

pub returns : goal.returns
returns c vars given log is over novel none = few vars given log is.clauses over novel none
