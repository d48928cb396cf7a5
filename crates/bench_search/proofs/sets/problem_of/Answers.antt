use Rattle.std.proofs.Common.{◌≡◌, ◌≤◌, length, ap, arith}
use Rattle.bench_search.proofs.sets.problem_of.Goals as goal

pub problem_over-requires-clause-atoms : goal.problem_over-requires-clause-atoms
problem_over-requires-clause-atoms c = record {
  rows = c.rows.ensures.well;
  one = c.in_ok-all.ensures.arity;
  first = c.in_ok-all.ensures.tops;
  few = let f = c.if-rows-gt100.false in let e = ap length c.rows.ensures.value in omega arith;
}
