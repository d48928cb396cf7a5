use Rattle.tuple_core.proofs.Ascending.{same_rows}
use Rattle.tuple_core.proofs.laws.same_tuples_are_one_set.Goals as goal

pub returns : goal.returns
returns c = same_rows
