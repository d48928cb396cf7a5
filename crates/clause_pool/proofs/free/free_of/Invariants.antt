use Rattle.std.proofs.Common.{◌≡◌, ◌≤◌, ◌+◌, ◌++◌, length, drop}
use Rattle.refutation_check.specs.Renumbering.{free_steps, not_local}
use Rattle.clause_pool.proofs.free.free_of.Given as goal

-- the free steps so far and those of what is left are all free steps
abbrev pub invariant-loop-step : goal.invariant-loop-step
invariant-loop-step l = record {
  all : l.free ++ free_steps l.kept (drop l.step-index l.steps) ≡ free_steps (not_local l.clauses l.local l.pool) l.steps;
  few : length l.free ≤ l.step-index;
  marks : length l.kept ≡ l.clauses + l.local + l.pool + l.step-index;
}
