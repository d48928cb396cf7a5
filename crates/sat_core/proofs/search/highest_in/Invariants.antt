use Rattle.std.proofs.Common.{◌≤◌, ◌<◌, ◌^◌, take, All}
use Rattle.sat_core.proofs.search.highest_in.Given as goal

abbrev pub invariant-loop-lit : goal.invariant-loop-lit
invariant-loop-lit l = record {
  first : l.first ≤ l.highest;
  lits : All (λ x. x.var ≤ l.highest) (take l.lit-index l.lits);
  small : l.highest < 2 ^ 31;
}
