use Rattle.std.proofs.Common.{◌≡◌, ◌≤◌, ◌+◌, All, length}
use Rattle.cnf_core.specs.Literal.{HasVarsUpTo}
use Rattle.sat_core.specs.Kept.{IsKept}
use Rattle.solver_tests.proofs.of_kept_search.block_each.Given as goal

abbrev pub invariant-loop-numbers : goal.invariant-loop-numbers
invariant-loop-numbers l = record {
  kept : IsKept l.f l.local.items l.pool l.search;
  few : length l.local.items ≤ length l.fn.local.items + l.numbers-index;
  locals : All (HasVarsUpTo l.f.vars) l.local.items;
  steps : l.search.steps ≡ l.fn.search.steps;
}
