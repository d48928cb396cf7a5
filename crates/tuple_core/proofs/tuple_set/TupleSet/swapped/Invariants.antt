use Rattle.std.proofs.Common.{◌≡◌, take, map}
use Rattle.tuple_core.specs.Swap.{swap_atoms}
use Rattle.tuple_core.specs.Gains.{SomeGives}
use Rattle.tuple_core.specs.Rows.{SetGains}
use Rattle.tuple_core.proofs.tuple_set.TupleSet.swapped.Given as goal

abbrev pub invariant-loop-row : goal.invariant-loop-row
invariant-loop-row l = SetGains l.initial.out l.out (SomeGives (take l.row-index l.row-items) (λ x t. t ≡ map (swap_atoms l.a l.b) x))
