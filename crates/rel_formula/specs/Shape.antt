-- The arity of an expression, and where an expression or a formula is well formed.
use Rattle.std.specs.Prelude.{◌≡◌, ℕ, ◌+◌, ◌<◌, List, length, slice_index}
use Rattle.tuple_core.specs.Operators.{arity_with, Fit}
use Rattle.rel_formula.specs.Kernel.{ExpressionTree, rel, var, nothing, univ, iden, binary, unary}
use Rattle.rel_formula.specs.Kernel.{FormulaTree, compared, at_least, negation, junction, quantified, FormulaTrees, no_formulas, more_formulas}

-- the arity of an expression's value, from those of the relations
abbrev pub arity_of : List ℕ → ExpressionTree → ℕ
arity_of ns (rel r) = slice_index ns r
arity_of ns (var i) = 1
arity_of ns nothing = 1
arity_of ns univ = 1
arity_of ns iden = 2
arity_of ns (binary o a b) = arity_with o (arity_of ns a) (arity_of ns b)
arity_of ns (unary o a) = 2

-- the operands' arities fit their operators, each relation is there, and each variable has one of d binders
abbrev pub IsWellFormed : List ℕ → ℕ → ExpressionTree → Type 0
IsWellFormed ns d (rel r) = r < length ns
IsWellFormed ns d (var i) = i < d
IsWellFormed ns d nothing = Unit {0}
IsWellFormed ns d univ = Unit {0}
IsWellFormed ns d iden = Unit {0}
IsWellFormed ns d (binary o a b) = IsWellFormed ns d a × IsWellFormed ns d b × Fit o (arity_of ns a) (arity_of ns b)
IsWellFormed ns d (unary o a) = IsWellFormed ns d a × (arity_of ns a ≡ 2)

abbrev mutual
  -- each expression of the formula is well formed and of the arity that its place wants
  pub IsProper : List ℕ → ℕ → FormulaTree → Type 0
  IsProper ns d (compared c a b) = IsWellFormed ns d a × IsWellFormed ns d b × (arity_of ns a ≡ arity_of ns b)
  IsProper ns d (at_least n e) = IsWellFormed ns d e
  IsProper ns d (negation f) = IsProper ns d f
  IsProper ns d (junction c fs) = AreProper ns d fs
  IsProper ns d (quantified q e f) = IsWellFormed ns d e × (arity_of ns e ≡ 1) × IsProper ns (d + 1) f

  -- each formula of the list is
  pub AreProper : List ℕ → ℕ → FormulaTrees → Type 0
  AreProper ns d no_formulas = Unit {0}
  AreProper ns d (more_formulas f rest) = IsProper ns d f × AreProper ns d rest
