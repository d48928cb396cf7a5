use Rattle.std.proofs.Common.{◌≡◌, take}
use Rattle.model_sizes.proofs.Sums.{AreSumsOf}
use Rattle.model_sizes.proofs.tables.sums_of_extensions.Given as goal

abbrev pub invariant-loop-number : goal.invariant-loop-number
invariant-loop-number l = AreSumsOf l.signatures l.table (take l.number l.signatures) l.sums.items
