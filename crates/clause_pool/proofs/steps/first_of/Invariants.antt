use Rattle.std.proofs.Common.{◌≡◌, take}
use Rattle.clause_pool.specs.Pooled.{steps_of}
use Rattle.clause_pool.proofs.steps.first_of.Given as goal

abbrev pub invariant-loop-log : goal.invariant-loop-log
invariant-loop-log l = l.first ≡ take l.n (steps_of (take l.log-index l.logs))
