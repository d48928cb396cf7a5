-- How the logic tells formulas apart: a formula is stored as its marks in Polish notation, operands first. Nothing but
-- the value of a problem's model needs this.
use Rattle.std.specs.Prelude.{◌≡◌, ◌==◌, ℕ, List, [], ◌∷◌, cond, refl}
use Rattle.std.specs.Coded.{Coded, code_by, coded×, coded_ℕ, coded_list}
use Rattle.std.proofs.Common.{◌∙◌, ap}
use Rattle.tuple_core.specs.declared.operator.Operator.{Operator}
use Rattle.tuple_core.specs.declared.operator.Operator.TheVariants as operator
use Rattle.tuple_core.specs.declared.operator.UnaryOperator.{UnaryOperator}
use Rattle.tuple_core.specs.declared.operator.UnaryOperator.TheVariants as unary_operator
use Rattle.rel_formula.specs.declared.connectives.Comparison.{Comparison}
use Rattle.rel_formula.specs.declared.connectives.Comparison.TheVariants as comparison
use Rattle.rel_formula.specs.declared.connectives.Connective.{Connective}
use Rattle.rel_formula.specs.declared.connectives.Connective.TheVariants as connective
use Rattle.rel_formula.specs.declared.connectives.Quantifier.{Quantifier}
use Rattle.rel_formula.specs.declared.connectives.Quantifier.TheVariants as quantifier
use Rattle.rel_formula.specs.Kernel.{ExpressionTree, rel, var, nothing, univ, iden, binary, unary, FormulaTree, compared, at_least, negation, junction, quantified, conjunction, FormulaTrees, no_formulas, more_formulas}

-- a variant with its number
pub data Mark : Type 0 where
  rel-mark : ℕ → Mark
  var-mark : ℕ → Mark
  nothing-mark : Mark
  univ-mark : Mark
  iden-mark : Mark
  binary-mark : Operator → Mark
  unary-mark : UnaryOperator → Mark
  compared-mark : Comparison → Mark
  at_least-mark : ℕ → Mark
  negation-mark : Mark
  junction-mark : Connective → Mark
  quantified-mark : Quantifier → Mark
  no_formulas-mark : Mark
  more_formulas-mark : Mark

abbrev pub expression_marks : ExpressionTree → List Mark → List Mark
expression_marks (rel r) rest = rel-mark r ∷ rest
expression_marks (var i) rest = var-mark i ∷ rest
expression_marks nothing rest = nothing-mark ∷ rest
expression_marks univ rest = univ-mark ∷ rest
expression_marks iden rest = iden-mark ∷ rest
expression_marks (binary o a b) rest = expression_marks a (expression_marks b (binary-mark o ∷ rest))
expression_marks (unary o a) rest = expression_marks a (unary-mark o ∷ rest)

abbrev mutual
  pub formula_marks : FormulaTree → List Mark → List Mark
  formula_marks (compared o a b) rest = expression_marks a (expression_marks b (compared-mark o ∷ rest))
  formula_marks (at_least n e) rest = expression_marks e (at_least-mark n ∷ rest)
  formula_marks (negation f) rest = formula_marks f (negation-mark ∷ rest)
  formula_marks (junction o fs) rest = formulas_marks fs (junction-mark o ∷ rest)
  formula_marks (quantified o e f) rest = expression_marks e (formula_marks f (quantified-mark o ∷ rest))

  pub formulas_marks : FormulaTrees → List Mark → List Mark
  formulas_marks no_formulas rest = no_formulas-mark ∷ rest
  formulas_marks (more_formulas f fs) rest = formula_marks f (formulas_marks fs (more_formulas-mark ∷ rest))

-- what was read so far, the last part first
pub data Stack : Type 0 where
  bottom : Stack
  an_expression : ExpressionTree → Stack → Stack
  a_formula : FormulaTree → Stack → Stack
  some_formulas : FormulaTrees → Stack → Stack

abbrev one : UnaryOperator → Stack → Stack
one o (an_expression a s) = an_expression (unary o a) s
one o s = bottom

abbrev two : Operator → Stack → Stack
two o (an_expression b (an_expression a s)) = an_expression (binary o a b) s
two o s = bottom

abbrev both : Comparison → Stack → Stack
both o (an_expression b (an_expression a s)) = a_formula (compared o a b) s
both o s = bottom

abbrev counted : ℕ → Stack → Stack
counted n (an_expression e s) = a_formula (at_least n e) s
counted n s = bottom

abbrev negated : Stack → Stack
negated (a_formula f s) = a_formula (negation f) s
negated s = bottom

abbrev listed : Connective → Stack → Stack
listed o (some_formulas fs s) = a_formula (junction o fs) s
listed o s = bottom

abbrev bound : Quantifier → Stack → Stack
bound o (a_formula f (an_expression e s)) = a_formula (quantified o e f) s
bound o s = bottom

abbrev longer : Stack → Stack
longer (some_formulas fs (a_formula f s)) = some_formulas (more_formulas f fs) s
longer s = bottom

abbrev step : Mark → Stack → Stack
step (rel-mark r) s = an_expression (rel r) s
step (var-mark i) s = an_expression (var i) s
step nothing-mark s = an_expression nothing s
step univ-mark s = an_expression univ s
step iden-mark s = an_expression iden s
step (binary-mark o) s = two o s
step (unary-mark o) s = one o s
step (compared-mark o) s = both o s
step (at_least-mark n) s = counted n s
step negation-mark s = negated s
step (junction-mark o) s = listed o s
step (quantified-mark o) s = bound o s
step no_formulas-mark s = some_formulas no_formulas s
step more_formulas-mark s = longer s

abbrev read : Stack → List Mark → Stack
read s [] = s
read s (m ∷ ms) = read (step m s) ms

abbrev top : Stack → FormulaTree
top (a_formula f s) = f
top s = conjunction no_formulas

read-expression : (e : ExpressionTree) (s : Stack) (rest : List Mark) → read s (expression_marks e rest) ≡ read (an_expression e s) rest
read-expression (rel r) s rest = refl
read-expression (var i) s rest = refl
read-expression nothing s rest = refl
read-expression univ s rest = refl
read-expression iden s rest = refl
read-expression (binary o a b) s rest = read-expression a s _ ∙ read-expression b (an_expression a s) _
read-expression (unary o a) s rest = read-expression a s _

mutual
  read-formula : (f : FormulaTree) (s : Stack) (rest : List Mark) → read s (formula_marks f rest) ≡ read (a_formula f s) rest
  read-formula (compared o a b) s rest = read-expression a s _ ∙ read-expression b (an_expression a s) _
  read-formula (at_least n e) s rest = read-expression e s _
  read-formula (negation f) s rest = read-formula f s _
  read-formula (junction o fs) s rest = read-formulas fs s _
  read-formula (quantified o e f) s rest = read-expression e s _ ∙ read-formula f (an_expression e s) _

  read-formulas : (fs : FormulaTrees) (s : Stack) (rest : List Mark) → read s (formulas_marks fs rest) ≡ read (some_formulas fs s) rest
  read-formulas no_formulas s rest = refl
  read-formulas (more_formulas f fs) s rest = read-formula f s _ ∙ read-formulas fs (a_formula f s) _

abbrev marks_of : FormulaTree → List Mark
marks_of f = formula_marks f []

abbrev formula_from : List Mark → FormulaTree
formula_from ms = top (read bottom ms)

pub formula_from-marks_of : (f : FormulaTree) → formula_from (marks_of f) ≡ f
formula_from-marks_of f = ap top (read-formula f bottom [])

abbrev operator_number : Operator → ℕ
operator_number operator.Union = 0
operator_number operator.Minus = 1
operator_number operator.Meet = 2
operator_number operator.Product = 3
operator_number operator.Join = 4
operator_number operator.Override = 5
operator_number operator.Dom = 6
operator_number operator.Ran = 7

abbrev operator_from : ℕ → Operator
operator_from n =
    cond (n == 0) operator.Union (cond (n == 1) operator.Minus (cond (n == 2) operator.Meet (cond (n == 3) operator.Product (cond (n == 4) operator.Join (cond (n == 5) operator.Override (cond (n == 6) operator.Dom operator.Ran))))))

operator_kept : (o : Operator) → operator_from (operator_number o) ≡ o
operator_kept operator.Union = refl
operator_kept operator.Minus = refl
operator_kept operator.Meet = refl
operator_kept operator.Product = refl
operator_kept operator.Join = refl
operator_kept operator.Override = refl
operator_kept operator.Dom = refl
operator_kept operator.Ran = refl

abbrev unary_number : UnaryOperator → ℕ
unary_number unary_operator.Transpose = 0
unary_number unary_operator.Closure = 1

abbrev unary_from : ℕ → UnaryOperator
unary_from n =
    cond (n == 0) unary_operator.Transpose unary_operator.Closure

unary_kept : (o : UnaryOperator) → unary_from (unary_number o) ≡ o
unary_kept unary_operator.Transpose = refl
unary_kept unary_operator.Closure = refl

abbrev comparison_number : Comparison → ℕ
comparison_number comparison.In = 0
comparison_number comparison.Equal = 1

abbrev comparison_from : ℕ → Comparison
comparison_from n = cond (n == 0) comparison.In comparison.Equal

comparison_kept : (o : Comparison) → comparison_from (comparison_number o) ≡ o
comparison_kept comparison.In = refl
comparison_kept comparison.Equal = refl

abbrev connective_number : Connective → ℕ
connective_number connective.And = 0
connective_number connective.Or = 1

abbrev connective_from : ℕ → Connective
connective_from n = cond (n == 0) connective.And connective.Or

connective_kept : (o : Connective) → connective_from (connective_number o) ≡ o
connective_kept connective.And = refl
connective_kept connective.Or = refl

abbrev quantifier_number : Quantifier → ℕ
quantifier_number quantifier.All = 0
quantifier_number quantifier.Exists = 1
quantifier_number quantifier.Lone = 2

abbrev quantifier_from : ℕ → Quantifier
quantifier_from n = cond (n == 0) quantifier.All (cond (n == 1) quantifier.Exists quantifier.Lone)

quantifier_kept : (o : Quantifier) → quantifier_from (quantifier_number o) ≡ o
quantifier_kept quantifier.All = refl
quantifier_kept quantifier.Exists = refl
quantifier_kept quantifier.Lone = refl

abbrev pub mark_to_pair : Mark → ℕ × ℕ
mark_to_pair (rel-mark n) = (0, n)
mark_to_pair (var-mark n) = (1, n)
mark_to_pair nothing-mark = (2, 0)
mark_to_pair univ-mark = (3, 0)
mark_to_pair iden-mark = (4, 0)
mark_to_pair (binary-mark o) = (5, operator_number o)
mark_to_pair (unary-mark o) = (6, unary_number o)
mark_to_pair (compared-mark o) = (7, comparison_number o)
mark_to_pair (at_least-mark n) = (8, n)
mark_to_pair negation-mark = (9, 0)
mark_to_pair (junction-mark o) = (10, connective_number o)
mark_to_pair (quantified-mark o) = (11, quantifier_number o)
mark_to_pair no_formulas-mark = (12, 0)
mark_to_pair more_formulas-mark = (13, 0)

abbrev pub mark_from_pair : ℕ × ℕ → Mark
mark_from_pair p =
    cond (p.0 == 0) (rel-mark p.1) (cond (p.0 == 1) (var-mark p.1) (cond (p.0 == 2) nothing-mark (cond (p.0 == 3) univ-mark (cond (p.0 == 4) iden-mark (
    cond (p.0 == 5) (binary-mark (operator_from p.1)) (cond (p.0 == 6) (unary-mark (unary_from p.1)) (cond (p.0 == 7) (compared-mark (comparison_from p.1)) (
    cond (p.0 == 8) (at_least-mark p.1) (cond (p.0 == 9) negation-mark (cond (p.0 == 10) (junction-mark (connective_from p.1)) (
    cond (p.0 == 11) (quantified-mark (quantifier_from p.1)) (cond (p.0 == 12) no_formulas-mark more_formulas-mark))))))))))))

pub mark_from_pair-mark_to_pair : (m : Mark) → mark_from_pair (mark_to_pair m) ≡ m
mark_from_pair-mark_to_pair (rel-mark n) = refl
mark_from_pair-mark_to_pair (var-mark n) = refl
mark_from_pair-mark_to_pair nothing-mark = refl
mark_from_pair-mark_to_pair univ-mark = refl
mark_from_pair-mark_to_pair iden-mark = refl
mark_from_pair-mark_to_pair (binary-mark o) = ap binary-mark (operator_kept o)
mark_from_pair-mark_to_pair (unary-mark o) = ap unary-mark (unary_kept o)
mark_from_pair-mark_to_pair (compared-mark o) = ap compared-mark (comparison_kept o)
mark_from_pair-mark_to_pair (at_least-mark n) = refl
mark_from_pair-mark_to_pair negation-mark = refl
mark_from_pair-mark_to_pair (junction-mark o) = ap junction-mark (connective_kept o)
mark_from_pair-mark_to_pair (quantified-mark o) = ap quantified-mark (quantifier_kept o)
mark_from_pair-mark_to_pair no_formulas-mark = refl
mark_from_pair-mark_to_pair more_formulas-mark = refl

abbrev pub formula_code : Coded FormulaTree
formula_code = code_by (List Mark) (coded_list (code_by (ℕ × ℕ) (coded× coded_ℕ coded_ℕ) mark_to_pair mark_from_pair mark_from_pair-mark_to_pair)) marks_of formula_from formula_from-marks_of
