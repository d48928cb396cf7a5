use Rattle.std.proofs.Common.{◌≡◌, ◌<◌, ◌-◌, length, get_or}
use Rattle.unit_propagation.specs.Watches.WatchState.{list_at, link_at}
use Rattle.unit_propagation.specs.Assignments.Trail.{ForcesMore, level_of}
use Rattle.unit_propagation.specs.Propagation.Walk.{IsWalking}
use Rattle.unit_propagation.proofs.watched_literals.walk.propagate_one.Given as goal

abbrev pub invariant-slots : goal.invariant-slots
invariant-slots l = record {
  walking : IsWalking l.store l.watches l.now l.pending.flags l.propagated l.gone l.at;
  link : l.link ≡ link_at (list_at l.watches.lists l.gone) l.at;
  before : 0 < l.at → get_or (list_at l.watches.lists l.gone) (l.at - 1) 0 ≡ l.before;
  in_lists : l.gone < length l.watches.lists;
  vars : l.now.vars ≡ l.fn.now.vars;
  more : ForcesMore l.fn.now.assigned l.now.assigned;
  level : level_of l.now.assigned ≡ level_of l.fn.now.assigned;
}

abbrev pub decreases-slots : goal.decreases-slots
decreases-slots l = length (list_at l.watches.lists l.gone) - l.at
