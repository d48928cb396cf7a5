use Rattle.std.proofs.Common.{◌≤◌, All, length}
use Rattle.hub_tests.proofs.of_clause_pool.log.Given as goal

abbrev pub invariant-loop-numbers : goal.invariant-loop-numbers
invariant-loop-numbers l = record { hints : All (λ s. All (λ hint. 1 ≤ hint) s.hints) l.log; few : length l.log ≤ l.numbers-index }
