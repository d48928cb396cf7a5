use Rattle.std.proofs.Common.{◌≡◌, length}
use Rattle.swap_symmetry.proofs.SwapRows.{TellsAll}
use Rattle.swap_symmetry.proofs.images.row_of.Given as goal

abbrev pub invariant-loop-number : goal.invariant-loop-number
invariant-loop-number l = record {
  count : length l.images.items ≡ l.number;
  told : TellsAll l.problem l.first l.second l.images.items;
}
