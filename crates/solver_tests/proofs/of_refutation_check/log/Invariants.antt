use Rattle.std.proofs.Common.{◌≤◌, ◌<◌, All, length}
use Rattle.cnf_core.specs.Literal.{HasVarsUpTo}
use Rattle.solver_tests.proofs.of_refutation_check.log.Given as goal

abbrev pub invariant-loop-numbers : goal.invariant-loop-numbers
invariant-loop-numbers l = record {
  clauses : All (λ s. HasVarsUpTo 2 s.clause) l.log;
  hints : All (λ s. All (λ hint. hint < 256) s.hints) l.log;
  few : length l.log ≤ l.numbers-index;
}
