use Rattle.std.proofs.Common.{◌≡◌, All, map, take}
use Rattle.swap_symmetry.specs.Images.{pair_in, IsSwapRow}
use Rattle.swap_symmetry.proofs.images.SwapImages.of.Given as goal

abbrev pub invariant-loop-pair : goal.invariant-loop-pair
invariant-loop-pair l = record {
  pairs : map pair_in l.rows.items ≡ take l.pair-index l.pair-items;
  rows : All (IsSwapRow l.problem) l.rows.items;
}
