use Rattle.std.proofs.Common.{take}
use Rattle.tuple_core.specs.Operators.{JoinsTo}
use Rattle.tuple_core.specs.Gains.{SomeGives}
use Rattle.tuple_core.specs.Rows.{SetGains}
use Rattle.rel_terms.proofs.pairs.add_joins.Given as goal

abbrev pub invariant-loop-right : goal.invariant-loop-right
invariant-loop-right l = SetGains l.fn.out l.out (SomeGives (take l.right-index l.rights) (λ r t. JoinsTo l.left r t))
