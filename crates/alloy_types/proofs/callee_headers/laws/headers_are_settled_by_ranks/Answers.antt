use Rattle.alloy_types.proofs.Headers.Ranks.{headers_by_ranks}
use Rattle.alloy_types.proofs.callee_headers.laws.headers_are_settled_by_ranks.Goals as goal

pub returns : goal.returns
returns c = headers_by_ranks
