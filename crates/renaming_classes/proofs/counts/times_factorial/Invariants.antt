use Rattle.std.proofs.Common.{◌≡◌, ◌*◌, ◌≤◌}
use Rattle.renaming_classes.specs.Counts.{factorial}
use Rattle.renaming_classes.proofs.counts.times_factorial.Given as goal

abbrev pub invariant-loop-factor : goal.invariant-loop-factor
invariant-loop-factor l = record { value : l.product ≡ l.fn.start * factorial l.factor; some : 1 ≤ l.product; few : l.product ≤ 40320 }
