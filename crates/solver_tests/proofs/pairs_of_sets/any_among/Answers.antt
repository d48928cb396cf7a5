use Rattle.std.proofs.Common.{inr}
use Rattle.solver_tests.proofs.pairs_of_sets.any_among.Goals as goal

pub returns : goal.returns
returns c = record {
  name = c.in_ok-of.ensures;
  arity = c.new.ensures.arity;
  upper = c.in_ok-copy.ensures;
  lower = inr c.new.ensures.rows;
}
