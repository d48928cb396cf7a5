use Rattle.std.proofs.Common.{◌≤◌, length}
use Rattle.unit_propagation.specs.Propagation.Walk.{IsReady}
use Rattle.sat_trail.proofs.settling.settle.Given as goal

abbrev pub invariant-settling : goal.invariant-settling
invariant-settling l = record {
  ready : IsReady l.store l.watches l.now l.pending.flags l.propagated;
  in_range : l.i ≤ length l.pending.list;
}

abbrev pub decreases-settling : goal.decreases-settling
decreases-settling l = l.i
