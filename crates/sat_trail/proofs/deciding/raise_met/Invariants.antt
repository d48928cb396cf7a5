use Rattle.std.proofs.Common.{◌≡◌, length}
use Rattle.sat_trail.proofs.deciding.raise_met.Given as goal

abbrev pub invariant-loop-hint : goal.invariant-loop-hint
invariant-loop-hint l = record {
  waiting : l.order.waiting ≡ l.fn.order.waiting;
  long : length l.order.activities ≡ length l.fn.order.activities;
}
