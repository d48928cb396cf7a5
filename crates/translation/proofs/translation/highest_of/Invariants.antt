use Rattle.std.proofs.Common.{◌≡◌, ◌<◌, ◌^◌, take}
use Rattle.translation.specs.Numbered.{highest_var}
use Rattle.translation.proofs.translation.highest_of.Given as goal

abbrev pub invariant-loop-formula : goal.invariant-loop-formula
invariant-loop-formula l = record {
  highest : l.highest ≡ highest_var l.var (take l.formula-index l.formulas);
  few : l.highest < 2 ^ 31;
}
