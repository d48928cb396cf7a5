use Rattle.std.proofs.Common.{length, ◌-◌, ◌≤◌, ◌<◌, ℕ, List, get_or}
use Rattle.tuple_core.specs.declared.atom.Atom.{Atom}
use Rattle.tuple_core.specs.Operators.{BeginsWith}
use Rattle.rel_terms.proofs.pairs.starting.Given as goal

abbrev pub invariant-loop-to : goal.invariant-loop-to
invariant-loop-to l = record {
  low : l.from ≤ l.to;
  high : l.to ≤ length l.rows;
  begin : (k : ℕ) (d : List Atom) → l.from ≤ k → k < l.to → BeginsWith l.atom (get_or l.rows k d);
}

abbrev pub decreases-loop-to : goal.decreases-loop-to
decreases-loop-to l = length l.rows - l.to
