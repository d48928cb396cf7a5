use Rattle.std.proofs.Common.{◌≡◌, take}
use Rattle.tuple_core.specs.Gains.{SomeGives}
use Rattle.tuple_core.specs.Rows.{SetGains}
use Rattle.rel_lower.proofs.field_bounds.products.add_rows.Given as goal

abbrev pub invariant-loop-row : goal.invariant-loop-row
invariant-loop-row l = SetGains l.fn.set l.set (SomeGives (take l.row-index l.rows) (λ x t. t ≡ x))
