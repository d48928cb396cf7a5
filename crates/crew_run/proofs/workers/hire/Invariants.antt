use Rattle.std.proofs.Common.{◌≤◌, ◌<◌, ◌-◌, ◌^◌, All, vec_len, vec_capacity}
use Rattle.crew_run.specs.declared.work.Worker.{Worker}
use Rattle.crew_run.specs.Passing.{IsReady, IsRoot}
use Rattle.crew_run.proofs.workers.hire.Given as goal

abbrev pub invariant-loop-root : goal.invariant-loop-root
invariant-loop-root l = record {
  root : IsRoot l.lock l.fn.root.view.base (vec_len l.crew) (vec_len l.crew) l.root;
  few : vec_len l.crew ≤ l.count;
  small : l.count < 2 ^ 32;
  room : l.count ≤ vec_capacity l.crew;
  ready : All (λ (w : Worker). IsReady l.lock l.fn.root.view.base w.pass) l.crew.items;
}

abbrev pub decreases-loop-root : goal.decreases-loop-root
decreases-loop-root l = l.count - vec_len l.crew
