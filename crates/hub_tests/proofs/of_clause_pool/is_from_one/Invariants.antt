use Rattle.std.proofs.Common.{◌≤◌, All, take}
use Rattle.hub_tests.proofs.of_clause_pool.is_from_one.Given as goal

abbrev pub invariant-loop-hint : goal.invariant-loop-hint
invariant-loop-hint l = All (λ hint. 1 ≤ hint) (take l.hint-index l.hints)
