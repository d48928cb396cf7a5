-- The arrows of a bound.
use Rattle.std.specs.Prelude.{Bool, true, false}
use Rattle.alloy_syntax.specs.declared.tree.Operator.{Operator}
use Rattle.alloy_syntax.specs.declared.tree.Operator.TheVariants as operator

abbrev pub is_arrow : Operator → Bool
is_arrow operator.Product = true
is_arrow other = false
