-- An expression under more binders.
use Rattle.std.specs.Prelude.{ℕ, ◌+◌}
use Rattle.rel_formula.specs.Kernel.{ExpressionTree, rel, var, nothing, univ, iden, binary, unary}

-- the expression under k binders more: a variable is counted outward, so each has k more before its own
abbrev pub shifted : ℕ → ExpressionTree → ExpressionTree
shifted k (rel r) = rel r
shifted k (var i) = var (i + k)
shifted k nothing = nothing
shifted k univ = univ
shifted k iden = iden
shifted k (binary o a b) = binary o (shifted k a) (shifted k b)
shifted k (unary o a) = unary o (shifted k a)
