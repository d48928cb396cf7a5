-- What a part becomes in the kernel, and what each operator makes of its operands.
use Rattle.std.specs.Prelude.{ℕ, ◌+◌, List, [], ◌∷◌, Bool, true, false, if◌then◌else◌, Option, Some, None}
use Rattle.alloy_syntax.specs.declared.tree.MultiplicityWord.{MultiplicityWord}
use Rattle.alloy_syntax.specs.declared.tree.Multiplicity.TheVariants as multiplicity
use Rattle.alloy_syntax.specs.declared.tree.Constant.{Constant}
use Rattle.alloy_syntax.specs.declared.tree.Constant.TheVariants as constants
use Rattle.alloy_syntax.specs.declared.tree.Prefix.{Prefix}
use Rattle.alloy_syntax.specs.declared.tree.Prefix.TheVariants as prefixes
use Rattle.alloy_syntax.specs.declared.tree.Operator.{Operator}
use Rattle.alloy_syntax.specs.declared.tree.Operator.TheVariants as operator
use Rattle.alloy_syntax.specs.declared.tree.Comparing.{Comparing}
use Rattle.alloy_syntax.specs.declared.tree.Comparison.{Comparison}
use Rattle.alloy_syntax.specs.declared.tree.Comparison.TheVariants as comparison
use Rattle.rel_formula.specs.Kernel.{ExpressionTree, nothing, univ, iden, union, minus, meet, product, join, transpose, closure, override, dom, ran, FormulaTree, within, equal, at_least, negation, conjunction, disjunction, FormulaTrees, no_formulas, formulas_of}

-- an expression, a formula, a number, or the size of an expression
pub data Lowered : Type 0 where
  relation : ExpressionTree → Lowered
  formula : FormulaTree → Lowered
  number : ℕ → Lowered
  size : ExpressionTree → Lowered

abbrev pub true_formula : FormulaTree
true_formula = conjunction no_formulas

-- what it is, where a part of a model with types has to be of that sort; anything where it is of another

abbrev pub expression_in : Lowered → ExpressionTree
expression_in (relation e) = e
expression_in other = nothing

abbrev pub formula_in : Lowered → FormulaTree
formula_in (formula f) = f
formula_in other = true_formula

abbrev pub number_in : Lowered → ℕ
number_in (number n) = n
number_in other = 0

-- ---- formulas of formulas

abbrev pub both : FormulaTree → FormulaTree → FormulaTree
both f g = conjunction (formulas_of (f ∷ g ∷ []))

abbrev pub either : FormulaTree → FormulaTree → FormulaTree
either f g = disjunction (formulas_of (f ∷ g ∷ []))

abbrev pub implication : FormulaTree → FormulaTree → FormulaTree
implication f g = either (negation f) g

abbrev pub choice : FormulaTree → FormulaTree → FormulaTree → FormulaTree
choice f g h = both (implication f g) (either f h)

abbrev pub equivalence : FormulaTree → FormulaTree → FormulaTree
equivalence f g = both (implication f g) (either f (negation g))

abbrev pub negation_if : Bool → FormulaTree → FormulaTree
negation_if b f = if b then negation f else f

-- ---- how many tuples an expression has

abbrev pub some_of : ExpressionTree → FormulaTree
some_of e = at_least 1 e

abbrev pub no_of : ExpressionTree → FormulaTree
no_of e = negation (at_least 1 e)

abbrev pub lone_of : ExpressionTree → FormulaTree
lone_of e = negation (at_least 2 e)

abbrev pub one_of : ExpressionTree → FormulaTree
one_of e = both (at_least 1 e) (negation (at_least 2 e))

abbrev pub more_than : ℕ → ExpressionTree → FormulaTree
more_than n e = at_least (n + 1) e

abbrev pub at_most : ℕ → ExpressionTree → FormulaTree
at_most n e = negation (more_than n e)

abbrev pub exactly : ℕ → ExpressionTree → FormulaTree
exactly n e = both (at_least n e) (at_most n e)

-- what a multiplicity word says of an expression: `set`, and no word, nothing
abbrev pub marked : Option MultiplicityWord → ExpressionTree → List FormulaTree
marked None e = []
marked (Some mark) e = elim mark.multiplicity [
  | multiplicity.Set ↦ []
  | multiplicity.Some ↦ some_of e ∷ []
  | multiplicity.Lone ↦ lone_of e ∷ []
  | multiplicity.One ↦ one_of e ∷ []
]

-- ---- constants, prefixes, operators

abbrev pub constant_lowered : Constant → ExpressionTree
constant_lowered constants.None = nothing
constant_lowered constants.Univ = univ
constant_lowered constants.Iden = iden

abbrev pub prefix_lowered : Prefix → Lowered → Lowered
prefix_lowered prefixes.Not x = formula (negation (formula_in x))
prefix_lowered prefixes.No x = formula (no_of (expression_in x))
prefix_lowered prefixes.Some x = formula (some_of (expression_in x))
prefix_lowered prefixes.Lone x = formula (lone_of (expression_in x))
prefix_lowered prefixes.One x = formula (one_of (expression_in x))
prefix_lowered prefixes.Size x = size (expression_in x)
prefix_lowered prefixes.Transpose x = relation (transpose (expression_in x))
prefix_lowered prefixes.Closure x = relation (closure (expression_in x))
prefix_lowered prefixes.ReflexiveClosure x = relation (union (closure (expression_in x)) iden)

-- an operator between two operands; `&&` and `||` stand between the operands of a whole chain
abbrev pub operator_lowered : Operator → Lowered → Lowered → Lowered
operator_lowered operator.Union x y = relation (union (expression_in x) (expression_in y))
operator_lowered operator.Minus x y = relation (minus (expression_in x) (expression_in y))
operator_lowered operator.Override x y = relation (override (expression_in x) (expression_in y))
operator_lowered operator.Meet x y = relation (meet (expression_in x) (expression_in y))
operator_lowered operator.Product x y = relation (product (expression_in x) (expression_in y))
operator_lowered operator.Domain x y = relation (dom (expression_in x) (expression_in y))
operator_lowered operator.Range x y = relation (ran (expression_in x) (expression_in y))
operator_lowered operator.Iff x y = formula (equivalence (formula_in x) (formula_in y))
operator_lowered operator.And x y = formula (both (formula_in x) (formula_in y))
operator_lowered operator.Or x y = formula (either (formula_in x) (formula_in y))

-- the operators whose chain is one list
abbrev pub joins_all : Operator → Bool
joins_all operator.And = true
joins_all operator.Or = true
joins_all other = false

abbrev pub list_lowered : Operator → FormulaTrees → Lowered
list_lowered operator.Or fs = formula (disjunction fs)
list_lowered other fs = formula (conjunction fs)

abbrev pub join_lowered : Lowered → Lowered → Lowered
join_lowered x y = relation (join (expression_in x) (expression_in y))

-- `a[b, c]` is `c.(b.a)`
abbrev pub brackets_lowered : ExpressionTree → List ExpressionTree → ExpressionTree
brackets_lowered e [] = e
brackets_lowered e (x ∷ xs) = brackets_lowered (join x e) xs

-- ---- comparisons

abbrev pub size_compared : Comparison → ExpressionTree → ℕ → FormulaTree
size_compared comparison.AtLeast e n = at_least n e
size_compared comparison.Greater e n = more_than n e
size_compared comparison.Less e n = negation (at_least n e)
size_compared comparison.AtMost e n = at_most n e
size_compared comparison.Equal e n = exactly n e
size_compared comparison.In e n = true_formula

abbrev pub relations_compared : Comparison → ExpressionTree → ExpressionTree → FormulaTree
relations_compared comparison.In a b = within a b
relations_compared comparison.Equal a b = equal a b
relations_compared other a b = true_formula

abbrev pub comparison_lowered : Comparing → Lowered → Lowered → Lowered
comparison_lowered c (size e) y = formula (negation_if c.negated (size_compared c.comparison e (number_in y)))
comparison_lowered c x y = formula (negation_if c.negated (relations_compared c.comparison (expression_in x) (expression_in y)))
