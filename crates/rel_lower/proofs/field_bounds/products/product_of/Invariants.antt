use Rattle.std.proofs.Common.{◌+◌, take}
use Rattle.tuple_core.specs.Rows.{IsSetOf}
use Rattle.lowering_rules.specs.Relations.{InProduct}
use Rattle.rel_lower.proofs.field_bounds.products.product_of.Given as goal

abbrev pub invariant-loop-top : goal.invariant-loop-top
invariant-loop-top l = IsSetOf l.tuples (l.top-index + 1) (InProduct l.sizes (take (l.top-index + 1) l.tops))
