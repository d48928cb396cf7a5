use Rattle.std.proofs.Common.{take}
use Rattle.tuple_core.specs.Operators.{JoinsTo}
use Rattle.tuple_core.specs.Gains.{SomeGives}
use Rattle.tuple_core.specs.Rows.{SetGains}
use Rattle.tuple_core.proofs.tuple_set.TupleSet.join.Given as goal

abbrev pub invariant-loop-left : goal.invariant-loop-left
invariant-loop-left l = SetGains l.initial.out l.out (SomeGives (take l.left-index l.left-items) (λ left t. SomeGives l.other.rows (λ r t. JoinsTo left r t) t))
