-- Operands of a bound with their places.
use Rattle.alloy_lex.specs.declared.token.Place.{Place}
use Rattle.alloy_syntax.specs.declared.tree.Bound.{Bound}
use Rattle.alloy_syntax.specs.Tree.{BoundTree}
use Rattle.alloy_syntax.specs.View.{bound_view}

-- an operand with the place of the `+` before it
abbrev pub placed_view : Place × Bound → Place × BoundTree
placed_view u = (u.0, bound_view u.1)
