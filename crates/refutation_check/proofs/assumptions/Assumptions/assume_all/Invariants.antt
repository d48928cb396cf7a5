use Rattle.std.proofs.Common.{◌≡◌, ◌≤◌, ◌^◌, length, take}
use Rattle.refutation_check.proofs.assumptions.Assumptions.assume_all.Given as goal

abbrev pub invariant-loop-lit : goal.invariant-loop-lit
invariant-loop-lit l = record {
  assumed : l.self ≡ record { vars = l.fn.self.vars; falses = take l.lit-index l.lits };
  few : length l.self.falses ≤ 2 ^ 31;
}
