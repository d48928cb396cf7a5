use Rattle.std.proofs.Common.{◌≡◌, ◌≤◌, ◌<◌, ◌-◌, ◌^◌, All, vec_len, vec_capacity}
use Rattle.bench.specs.Turns.{IsReady, IsRoot}
use Rattle.bench.proofs.turns.hire.Given as goal

abbrev pub invariant-loop-root : goal.invariant-loop-root
invariant-loop-root l = record {
  root : IsRoot l.lock (vec_len l.crew) l.root;
  made : l.root.view.made ≡ vec_len l.crew;
  few : vec_len l.crew ≤ l.count;
  small : l.count < 2 ^ 32;
  room : l.count ≤ vec_capacity l.crew;
  ready : All (IsReady l.lock) l.crew.items;
}

abbrev pub decreases-loop-root : goal.decreases-loop-root
decreases-loop-root l = l.count - vec_len l.crew
