use Rattle.std.proofs.Common.{◌≡◌, ◌≤◌, ◌-◌, length}
use Rattle.sat_core.specs.Count.{raised}
use Rattle.sat_core.specs.Search.{Searching}
use Rattle.sat_core.proofs.lent.search_on.Given as goal

abbrev pub invariant-learning : goal.invariant-learning
invariant-learning l = record {
  searching : Searching l.fn.trail.clauses l.fn.trail.vars l.assumed l.depth l.trail l.log;
  few : length l.log ≤ l.budget;
  counted : l.count ≡ raised l.fn.count (length l.log);
}

abbrev pub decreases-learning : goal.decreases-learning
decreases-learning l = l.budget - length l.log
