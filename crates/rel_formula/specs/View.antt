-- What contracts see of an expression and of a formula.
use Rattle.rel_formula.specs.declared.formula.Expression.{Expression}
use Rattle.rel_formula.specs.declared.formula.Expression.TheVariants.{Rel, Var, None as Nothing, Univ, Iden, Binary', Unary'}
use Rattle.rel_formula.specs.declared.formula.Formula.{Formula, Compared, AtLeast, Not', Junction', Quantified', Row_of-Formula, end_of-Formula, more_of-Formula}
use Rattle.rel_formula.specs.Kernel.{ExpressionTree, rel, var, nothing, univ, iden, binary, unary, FormulaTree, compared, at_least, negation, junction, quantified, FormulaTrees, no_formulas, more_formulas}

abbrev pub expression_tree : Expression → ExpressionTree
expression_tree (Rel r) = rel r
expression_tree (Var i) = var i
expression_tree Nothing = nothing
expression_tree Univ = univ
expression_tree Iden = iden
expression_tree (Binary' o _ a _ b) = binary o (expression_tree a) (expression_tree b)
expression_tree (Unary' o _ a) = unary o (expression_tree a)

abbrev mutual
  pub formula_tree : Formula → FormulaTree
  formula_tree (Compared c a b) = compared c (expression_tree a) (expression_tree b)
  formula_tree (AtLeast n e) = at_least n (expression_tree e)
  formula_tree (Not' _ f) = negation (formula_tree f)
  formula_tree (Junction' c _ fs) = junction c (formula_trees fs)
  formula_tree (Quantified' q e _ f) = quantified q (expression_tree e) (formula_tree f)

  -- those of the formulas in a `Vec`
  pub formula_trees : {m : _} → Row_of-Formula m → FormulaTrees
  formula_trees end_of-Formula = no_formulas
  formula_trees (more_of-Formula f rest) = more_formulas (formula_tree f) (formula_trees rest)
