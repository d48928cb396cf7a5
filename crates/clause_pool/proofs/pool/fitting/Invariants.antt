use Rattle.std.proofs.Common.{◌≡◌, ◌≤◌, ◌+◌, take}
use Rattle.clause_pool.specs.Limits.{numbers_in}
use Rattle.clause_pool.proofs.pool.fitting.Given as goal

abbrev pub invariant-loop-i : goal.invariant-loop-i
invariant-loop-i l = record {
  few_steps : l.pool_steps + l.i ≤ 20000;
  numbers : l.numbers ≡ numbers_in (take l.i l.steps);
  few_numbers : l.pool_numbers + l.numbers ≤ 2000000;
}
