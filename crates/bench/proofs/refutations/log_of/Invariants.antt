use Rattle.std.proofs.Common.{◌≤◌, All, length}
use Rattle.cnf_core.specs.Literal.{HasVarsUpTo}
use Rattle.bench.proofs.refutations.log_of.Given as goal

abbrev pub invariant-loop-made : goal.invariant-loop-made
invariant-loop-made l = record { small : All (λ s. HasVarsUpTo 1020 s.clause) l.log; few : length l.log ≤ l.made }
