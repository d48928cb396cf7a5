use Rattle.std.proofs.Common.{◌≡◌}
use Rattle.refutation_check.proofs.Verdicts.{AcceptedUpTo}
use Rattle.refutation_check.proofs.refutation.verdict_of.Given as goal

abbrev pub invariant-loop-i : goal.invariant-loop-i
invariant-loop-i l = record {
  accepted : AcceptedUpTo l.f.clauses l.steps l.i;
  assumed : l.assumed ≡ l.fn.assumed;
}
