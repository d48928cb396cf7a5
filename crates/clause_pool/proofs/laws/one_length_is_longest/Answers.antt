use Rattle.clause_pool.proofs.Fitting.{one_longest}
use Rattle.clause_pool.proofs.laws.one_length_is_longest.Goals as goal

pub returns : goal.returns
returns c = one_longest
