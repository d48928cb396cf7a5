use Rattle.std.proofs.Common.{◌≡◌, length}
use Rattle.refutation_check.proofs.Keeping.{Unmarked}
use Rattle.refutation_check.proofs.assumptions.unmark.Given as goal

abbrev pub invariant-loop-lit : goal.invariant-loop-lit
invariant-loop-lit l = record {
  marked : Unmarked l.marks.items l.trail l.lit-index;
  long : length l.marks.items ≡ length l.fn.marks.items;
}
