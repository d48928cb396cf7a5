use Rattle.bench.specs.Turns.{IsReady}
use Rattle.bench.proofs.turns.work.Given as goal

abbrev pub invariant-loop : goal.invariant-loop
invariant-loop g l = IsReady l.lock l.worker
