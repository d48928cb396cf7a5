use Rattle.std.proofs.Common.{◌≤◌, ◌+◌, All, length}
use Rattle.cnf_core.specs.Literal.{HasVarsUpTo}
use Rattle.sat_core.specs.Kept.{IsKept}
use Rattle.solver_tests.proofs.of_kept_search.listed.Given as goal

abbrev pub invariant-loop-number : goal.invariant-loop-number
invariant-loop-number l = record {
  kept : IsKept l.f l.local.items l.pool l.search;
  few : length l.local.items ≤ length l.fn.local.items + l.number;
  room : length l.search.steps ≤ 1000;
  locals : All (HasVarsUpTo l.f.vars) l.local.items;
}
