-- An expression, and a formula, has one number of terms.
use Rattle.std.proofs.Common.{◌≡◌, List, [], ◌∷◌, map, refl, sym, ◌∙◌, ap₂, subst}
use Rattle.tuple_core.specs.declared.atom.Atom.{Atom}
use Rattle.tuple_core.specs.declared.operator.Operator.{Operator}
use Rattle.tuple_core.specs.declared.operator.Operator.TheVariants as operator
use Rattle.tuple_core.specs.declared.operator.UnaryOperator.{UnaryOperator}
use Rattle.tuple_core.specs.declared.operator.UnaryOperator.TheVariants as unary_operator
use Rattle.tuple_core.specs.Operators.{Pred, Closed}
use Rattle.rel_formula.specs.declared.connectives.Comparison.{Comparison}
use Rattle.rel_formula.specs.declared.connectives.Comparison.TheVariants as comparison
use Rattle.rel_formula.specs.Kernel.{ExpressionTree, rel, var, nothing, univ, iden, binary, unary}
use Rattle.rel_formula.specs.Kernel.{FormulaTree, compared, at_least, negation, junction, quantified, FormulaTrees, no_formulas, more_formulas}
use Rattle.rel_formula.specs.Meaning.{Structure}
use Rattle.rel_terms.specs.Numbers.{Number}
use Rattle.rel_terms.specs.Terms.{InUpperAt, UpperHas, Meeting, SumsTo, SumsOver, own_terms, turn_terms, compared_terms, ExpressionHas, FormulaHas, FormulasHave}
use Rattle.rel_terms.proofs.Numbers.{Once, sum_once, product_once, is_once}
use Rattle.rel_terms.proofs.TupleSizes.{size_once, list_once}

pub singles_once : (xs ys : List Atom) → map (λ (x : Atom). x ∷ []) xs ≡ map (λ (x : Atom). x ∷ []) ys → xs ≡ ys
singles_once [] [] e = refl
singles_once [] (y ∷ ys) e = absurd (cc)
singles_once (x ∷ xs) [] e = absurd (cc)
singles_once (x ∷ xs) (y ∷ ys) e =
    let one : x ∷ [] ≡ y ∷ [] = cc in
    let first : x ≡ y = cc in
    let rest : map (λ (z : Atom). z ∷ []) xs ≡ map (λ (z : Atom). z ∷ []) ys = cc in
    ap₂ (λ a bs. a ∷ bs) first (singles_once xs ys rest)

pub sums_once : (C : Atom → Number) → ((a : Atom) → Once (C a)) → (xs : List Atom) → Once (SumsTo C xs)
sums_once C one [] n m h g = h ∙ sym g
sums_once C one (x ∷ xs) n m h g = sum_once (C x) (SumsTo C xs) (one x) (sums_once C one xs) n m h g

pub sums_over_once : (P : Pred) (C : Atom → Number) → ((a : Atom) → Once (C a)) → Once (SumsOver P C)
sums_over_once P C one n m h g =
    let same = singles_once h.0 g.0 (list_once P _ _ h.1 g.1) in
    sums_once C one g.0 n m (subst (λ xs. SumsTo C xs n) same h.2) g.2

own_once : (o : Operator) (P Q : Pred) → Once (own_terms o P Q)
own_once operator.Union P Q = sum_once _ _ (size_once P) (size_once Q)
own_once operator.Minus P Q = sum_once _ _ (size_once P) (size_once Q)
own_once operator.Meet P Q = sum_once _ _ (size_once P) (size_once Q)
own_once operator.Product P Q = product_once _ _ (size_once P) (size_once Q)
own_once operator.Join P Q = size_once (Meeting P Q)
own_once operator.Override P Q = sum_once _ _ (size_once P) (product_once _ _ (is_once 2) (size_once Q))
own_once operator.Dom P Q = size_once Q
own_once operator.Ran P Q = size_once P

turn_once : (o : UnaryOperator) (P : Pred) → Once (turn_terms o P)
turn_once unary_operator.Transpose P = size_once P
turn_once unary_operator.Closure P = product_once _ _ (is_once 6) (size_once (Meeting (Closed P) (Closed P)))

compared_once : (c : Comparison) (P Q : Pred) → Once (compared_terms c P Q)
compared_once comparison.In P Q = size_once P
compared_once comparison.Equal P Q = sum_once _ _ (size_once P) (size_once Q)

module _ (M : Structure) where
  upper_once : (env : List Atom) (e : ExpressionTree) → Once (UpperHas M env e)
  upper_once env e = size_once (InUpperAt M env e)

  pub expression_once : (env : List Atom) (e : ExpressionTree) → Once (ExpressionHas M env e)
  expression_once env (rel r) = upper_once env (rel r)
  expression_once env (var i) = upper_once env (var i)
  expression_once env nothing = upper_once env nothing
  expression_once env univ = upper_once env univ
  expression_once env iden = upper_once env iden
  expression_once env (binary o a b) = sum_once _ _ (sum_once _ _ (expression_once env a) (expression_once env b)) (own_once o (InUpperAt M env a) (InUpperAt M env b))
  expression_once env (unary o a) = sum_once _ _ (expression_once env a) (turn_once o (InUpperAt M env a))

  mutual
    pub formula_once : (env : List Atom) (f : FormulaTree) → Once (FormulaHas M env f)
    formula_once env (compared c a b) = sum_once _ _ (sum_once _ _ (expression_once env a) (expression_once env b)) (compared_once c (InUpperAt M env a) (InUpperAt M env b))
    formula_once env (at_least m e) = sum_once _ _ (expression_once env e) (product_once _ _ (upper_once env e) (is_once _))
    formula_once env (negation f) = sum_once _ _ (is_once 1) (formula_once env f)
    formula_once env (junction c fs) = sum_once _ _ (is_once 1) (formulas_once env fs)
    formula_once env (quantified q e f) = sum_once _ _ (expression_once env e) (sums_over_once (InUpperAt M env e) _ (λ a. sum_once _ _ (is_once _) (formula_once (a ∷ env) f)))

    pub formulas_once : (env : List Atom) (fs : FormulaTrees) → Once (FormulasHave M env fs)
    formulas_once env no_formulas = is_once 0
    formulas_once env (more_formulas f fs) = sum_once _ _ (formula_once env f) (formulas_once env fs)
