use Rattle.std.proofs.Common.{◌≡◌, ◌++◌, take}
use Rattle.sat_core.specs.Kept.{numbers_from}
use Rattle.sat_core.proofs.kept.keep_all.Given as goal

abbrev pub invariant-loop-place : goal.invariant-loop-place
invariant-loop-place l = record {
  numbers : l.numbers.items ≡ l.fn.numbers.items ++ numbers_from l.first l.place;
  steps : l.steps ≡ l.fn.steps ++ take l.place l.log;
}
