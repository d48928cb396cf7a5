use Rattle.std.proofs.Common.{◌≡◌, take, length}
use Rattle.unit_propagation.specs.Clauses.Codes.{literals_of}
use Rattle.sat_trail.specs.Learning.{Marking}
use Rattle.sat_trail.proofs.learning.mark.Given as goal

abbrev pub invariant-loop-code : goal.invariant-loop-code
invariant-loop-code l = record {
  marking : Marking l.initial.seen.items l.seen.items (take l.code-index (literals_of l.codes));
  long : length l.seen.items ≡ length l.initial.seen.items;
}
