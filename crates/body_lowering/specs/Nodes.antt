-- How many nodes an expression and a formula have, and how many nodes of an expression lie inside one another.
use Rattle.std.specs.Prelude.{ℕ, ◌+◌, max, List, [], ◌∷◌}
use Rattle.rel_formula.specs.Kernel.{ExpressionTree, rel, var, nothing, univ, iden, binary, unary, FormulaTree, compared, at_least, negation, junction, quantified, FormulaTrees, no_formulas, more_formulas}

-- each operator is a node, and so is each relation, variable and constant that operators stand over in the end
abbrev pub nodes_of : ExpressionTree → ℕ
nodes_of (rel r) = 1
nodes_of (var i) = 1
nodes_of nothing = 1
nodes_of univ = 1
nodes_of iden = 1
nodes_of (binary o a b) = nodes_of a + nodes_of b + 1
nodes_of (unary o a) = nodes_of a + 1

abbrev pub levels_of : ExpressionTree → ℕ
levels_of (rel r) = 1
levels_of (var i) = 1
levels_of nothing = 1
levels_of univ = 1
levels_of iden = 1
levels_of (binary o a b) = max (levels_of a) (levels_of b) + 1
levels_of (unary o a) = levels_of a + 1

-- those of a list of expressions
abbrev pub nodes_of_each : List ExpressionTree → ℕ
nodes_of_each [] = 0
nodes_of_each (e ∷ es) = nodes_of e + nodes_of_each es

abbrev pub levels_of_each : List ExpressionTree → ℕ
levels_of_each [] = 0
levels_of_each (e ∷ es) = max (levels_of e) (levels_of_each es)

-- a formula is a node beside its parts
abbrev mutual
  pub formula_nodes : FormulaTree → ℕ
  formula_nodes (compared c a b) = nodes_of a + nodes_of b + 1
  formula_nodes (at_least n e) = nodes_of e + 1
  formula_nodes (negation f) = formula_nodes f + 1
  formula_nodes (junction c fs) = formulas_nodes fs + 1
  formula_nodes (quantified q e f) = nodes_of e + formula_nodes f + 1

  pub formulas_nodes : FormulaTrees → ℕ
  formulas_nodes no_formulas = 0
  formulas_nodes (more_formulas f fs) = formula_nodes f + formulas_nodes fs

-- the levels of the deepest of its expressions
abbrev mutual
  pub formula_levels : FormulaTree → ℕ
  formula_levels (compared c a b) = max (levels_of a) (levels_of b)
  formula_levels (at_least n e) = levels_of e
  formula_levels (negation f) = formula_levels f
  formula_levels (junction c fs) = formulas_levels fs
  formula_levels (quantified q e f) = max (levels_of e) (formula_levels f)

  pub formulas_levels : FormulaTrees → ℕ
  formulas_levels no_formulas = 0
  formulas_levels (more_formulas f fs) = max (formula_levels f) (formulas_levels fs)
