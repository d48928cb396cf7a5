use Rattle.std.proofs.Common.{take, All}
use Rattle.tuple_core.specs.Operators.{BeginsWith}
use Rattle.tuple_core.proofs.tuple_set.TupleSet.has_first.Given as goal

abbrev pub invariant-loop-row : goal.invariant-loop-row
invariant-loop-row l = All (λ t. BeginsWith l.atom t → ⊥) (take l.row-index l.row-items)
