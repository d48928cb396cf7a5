use Rattle.std.proofs.Common.{◌≡◌, ◌≤◌}
use Rattle.renaming_classes.specs.Counts.{orders}
use Rattle.renaming_classes.proofs.counts.orders.Given as goal

abbrev pub invariant-loop-top : goal.invariant-loop-top
invariant-loop-top l = record { value : l.product ≡ orders l.atoms l.top; some : 1 ≤ l.product; few : l.product ≤ 40320 }
