-- Expressions and formulas of the kernel, as plain data.
use Rattle.std.specs.Prelude.{ℕ, List, [], ◌∷◌}
use Rattle.tuple_core.specs.declared.operator.Operator.{Operator}
use Rattle.tuple_core.specs.declared.operator.Operator.TheVariants as operator
use Rattle.tuple_core.specs.declared.operator.UnaryOperator.{UnaryOperator}
use Rattle.tuple_core.specs.declared.operator.UnaryOperator.TheVariants as unary_operator
use Rattle.rel_formula.specs.declared.connectives.Comparison.{Comparison}
use Rattle.rel_formula.specs.declared.connectives.Comparison.TheVariants as comparison
use Rattle.rel_formula.specs.declared.connectives.Connective.{Connective}
use Rattle.rel_formula.specs.declared.connectives.Connective.TheVariants as connective
use Rattle.rel_formula.specs.declared.connectives.Quantifier.{Quantifier}
use Rattle.rel_formula.specs.declared.connectives.Quantifier.TheVariants as quantifier

-- an expression, whose value is a set of tuples
pub data ExpressionTree : Type 0 where
  -- the relation of a number, and the atom of a binder, counted outward from 0
  rel : ℕ → ExpressionTree
  var : ℕ → ExpressionTree
  -- no atom; the atoms of all top-level signatures; each of these beside itself
  nothing : ExpressionTree
  univ : ExpressionTree
  iden : ExpressionTree
  binary : Operator → ExpressionTree → ExpressionTree → ExpressionTree
  unary : UnaryOperator → ExpressionTree → ExpressionTree

-- the operators' own words
abbrev pub union : ExpressionTree → ExpressionTree → ExpressionTree
union = binary operator.Union

abbrev pub minus : ExpressionTree → ExpressionTree → ExpressionTree
minus = binary operator.Minus

abbrev pub meet : ExpressionTree → ExpressionTree → ExpressionTree
meet = binary operator.Meet

abbrev pub product : ExpressionTree → ExpressionTree → ExpressionTree
product = binary operator.Product

abbrev pub join : ExpressionTree → ExpressionTree → ExpressionTree
join = binary operator.Join

abbrev pub override : ExpressionTree → ExpressionTree → ExpressionTree
override = binary operator.Override

abbrev pub dom : ExpressionTree → ExpressionTree → ExpressionTree
dom = binary operator.Dom

abbrev pub ran : ExpressionTree → ExpressionTree → ExpressionTree
ran = binary operator.Ran

abbrev pub transpose : ExpressionTree → ExpressionTree
transpose = unary unary_operator.Transpose

abbrev pub closure : ExpressionTree → ExpressionTree
closure = unary unary_operator.Closure

-- a formula, which is true or false
mutual
  pub data FormulaTree : Type 0 where
    compared : Comparison → ExpressionTree → ExpressionTree → FormulaTree
    at_least : ℕ → ExpressionTree → FormulaTree
    negation : FormulaTree → FormulaTree
    junction : Connective → FormulaTrees → FormulaTree
    -- for so many atoms of a set
    quantified : Quantifier → ExpressionTree → FormulaTree → FormulaTree

  pub data FormulaTrees : Type 0 where
    no_formulas : FormulaTrees
    more_formulas : FormulaTree → FormulaTrees → FormulaTrees

-- their own words
abbrev pub within : ExpressionTree → ExpressionTree → FormulaTree
within = compared comparison.In

abbrev pub equal : ExpressionTree → ExpressionTree → FormulaTree
equal = compared comparison.Equal

abbrev pub conjunction : FormulaTrees → FormulaTree
conjunction = junction connective.And

abbrev pub disjunction : FormulaTrees → FormulaTree
disjunction = junction connective.Or

-- for all atoms of a set, for some, for at most one
abbrev pub for_all : ExpressionTree → FormulaTree → FormulaTree
for_all = quantified quantifier.All

abbrev pub for_some : ExpressionTree → FormulaTree → FormulaTree
for_some = quantified quantifier.Exists

abbrev pub for_at_most_one : ExpressionTree → FormulaTree → FormulaTree
for_at_most_one = quantified quantifier.Lone

-- the formulas of a list, in order
abbrev pub formulas_of : List FormulaTree → FormulaTrees
formulas_of [] = no_formulas
formulas_of (f ∷ fs) = more_formulas f (formulas_of fs)
