use Rattle.std.proofs.Common.{◌≡◌, length}
use Rattle.sat_trail.proofs.deciding.raise_in.Given as goal

abbrev pub invariant-loop-code : goal.invariant-loop-code
invariant-loop-code l = record {
  waiting : l.order.waiting ≡ l.fn.order.waiting;
  long : length l.order.activities ≡ length l.fn.order.activities;
}
