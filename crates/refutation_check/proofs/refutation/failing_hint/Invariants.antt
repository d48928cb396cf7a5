use Rattle.std.proofs.Common.{◌≡◌, ◌≤◌, ◌^◌, length}
use Rattle.refutation_check.specs.Chain.{members_of}
use Rattle.refutation_check.proofs.Chains.{Going}
use Rattle.refutation_check.proofs.refutation.failing_hint.Given as goal

abbrev pub invariant-loop-i : goal.invariant-loop-i
invariant-loop-i l = record {
  going : Going (members_of l.f.clauses l.earlier) l.fn.assumed.falses l.hints l.i l.assumed.falses;
  vars : l.assumed.vars ≡ l.fn.assumed.vars;
  few : length l.assumed.falses ≤ 2 ^ 31;
}
