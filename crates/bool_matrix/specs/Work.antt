-- How much each operator has to do, and what it asks for.
use Rattle.std.specs.Prelude.{◌+◌, ◌*◌, ℕ, length}
use Rattle.tuple_core.specs.declared.operator.Operator.{Operator}
use Rattle.tuple_core.specs.declared.operator.Operator.TheVariants as operator
use Rattle.tuple_core.specs.declared.operator.UnaryOperator.{UnaryOperator}
use Rattle.tuple_core.specs.declared.operator.UnaryOperator.TheVariants as unary_operator
use Rattle.tuple_core.specs.Operators.{Pred, Closed}
use Rattle.bool_matrix.specs.Cells.{Cells}
use Rattle.bool_matrix.specs.Terms.{tuples, joins}
use Rattle.bool_matrix.specs.Closure.{HasFewAtoms, HasRoom}

-- how much an operator has to do with two matrices
abbrev pub combine_work : Operator → Cells → Cells → ℕ
combine_work operator.Union l r = length l.entries + length r.entries
combine_work operator.Minus l r = length l.entries + length r.entries
combine_work operator.Meet l r = length l.entries + length r.entries
combine_work operator.Product l r = length l.entries * length r.entries
combine_work operator.Join l r = joins (tuples l) (tuples r)
combine_work operator.Override l r = length l.entries + 2 * length r.entries
combine_work operator.Dom l r = length r.entries
combine_work operator.Ran l r = length l.entries

-- and how much it has done with pairs where it made these
abbrev pub turn_work : UnaryOperator → Cells → ℕ
turn_work unary_operator.Transpose m = 0
turn_work unary_operator.Closure m = 6 * joins (tuples m) (tuples m)

-- where `used` nodes are there, the operator may take the pairs of P: a closure wants few atoms that begin a pair, and
-- room for its work
abbrev pub MayTurn : UnaryOperator → ℕ → ℕ → Pred → Type 0
MayTurn unary_operator.Transpose used limit P = Unit {0}
MayTurn unary_operator.Closure used limit P = HasFewAtoms 64 P × HasRoom used limit (Closed P)
