use Rattle.std.proofs.Common.{take}
use Rattle.tuple_core.specs.Operators.{JoinsTo}
use Rattle.tuple_core.specs.Gains.{SomeGives}
use Rattle.tuple_core.specs.Rows.{SetGains}
use Rattle.rel_terms.proofs.pairs.joins.Given as goal

abbrev pub invariant-loop-row : goal.invariant-loop-row
invariant-loop-row l = SetGains l.initial.out l.out (SomeGives (take l.row-index l.row-items) (λ left t. SomeGives l.right.rows (λ r t. JoinsTo left r t) t))
