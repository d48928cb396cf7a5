use Rattle.std.proofs.Common.{All, vec_len}
use Rattle.bench.specs.Turns.{IsReady, IsRoot}
use Rattle.bench.proofs.turns.gather.Given as goal

abbrev pub invariant-loop-worker : goal.invariant-loop-worker
invariant-loop-worker l = record { root : IsRoot l.lock (vec_len l.crew) l.root; ready : All (IsReady l.lock) l.crew.items }

abbrev pub decreases-loop-worker : goal.decreases-loop-worker
decreases-loop-worker l = vec_len l.crew
