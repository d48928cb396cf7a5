use Rattle.std.proofs.Common.{All, vec_len}
use Rattle.crew_run.specs.declared.work.Worker.{Worker}
use Rattle.crew_run.specs.Passing.{IsReady, IsRoot}
use Rattle.crew_run.proofs.workers.gather.Given as goal

abbrev pub invariant-loop-worker : goal.invariant-loop-worker
invariant-loop-worker l = record {
  root : IsRoot l.lock l.fn.root.view.base l.fn.root.view.made (vec_len l.crew) l.root;
  ready : All (λ (w : Worker). IsReady l.lock l.fn.root.view.base w.pass) l.crew.items;
}

abbrev pub decreases-loop-worker : goal.decreases-loop-worker
decreases-loop-worker l = vec_len l.crew
