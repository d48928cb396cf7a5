use Rattle.std.proofs.Common.{◌≡◌, take, ◌++◌}
use Rattle.tuple_core.specs.Gains.{SomeGives}
use Rattle.tuple_core.specs.Rows.{SetGains}
use Rattle.tuple_core.proofs.tuple_set.TupleSet.add_products.Given as goal

abbrev pub invariant-loop-right : goal.invariant-loop-right
invariant-loop-right l = SetGains l.fn.self l.self (SomeGives (take l.right-index l.rights) (λ r t. t ≡ l.left ++ r))
