-- Each part of an expression or a formula is smaller than the whole, so calls for the parts come to an end.
use Rattle.std.proofs.Common.{◌≡◌, ℕ, ◌+◌, ◌*◌, ◌<◌, ◌≤◌, List, length, get_or, Vec, Box, Global, ap, subst, arith, rules}
use denote.Param.Weighed.{most, at_most}
use borrow.Author.Sizes.{ranked_under, ranked_below}
use Rattle.tuple_core.specs.declared.operator.Operator.{Operator}
use Rattle.tuple_core.specs.declared.operator.UnaryOperator.{UnaryOperator}
use Rattle.rel_formula.proofs.formula.Expression.TheLaws.{the_size as expression_size}
use Rattle.rel_formula.proofs.formula.Formula.TheLaws.{the_size}
use Rattle.rel_formula.specs.declared.connectives.Connective.{Connective}
use Rattle.rel_formula.specs.declared.connectives.Quantifier.{Quantifier}
use Rattle.rel_formula.specs.declared.formula.Expression.{Expression}
use Rattle.rel_formula.specs.declared.formula.Formula.{Formula}
use Rattle.rel_formula.specs.declared.formula.Expression.TheVariants as expression
use Rattle.rel_formula.specs.declared.formula.Formula.TheVariants as formula
use Rattle.rel_formula.specs.declared.formula.Expression.TheViews.{the_lemmas as of_expressions}
use Rattle.rel_formula.specs.declared.formula.Formula.TheViews.{the_lemmas as of_formulas}

-- a call by a function of rank s for one of rank r, where there are k ranks
module _ {X : Type 0} (size : X → ℕ) (k r s t : ℕ) where
  module _ (below : r < k) (whole seen : X) (measured : k * size whole + s ≡ t) (is : whole ≡ seen) where
    -- for a part of what is measured
    pub part_falls : (part given : X) → given ≡ part → size part < size seen → k * size given + r < t
    part_falls part given same smaller =
        let a = ap size is in
        let b = ap size same in
        let lower : size given < size whole = omega arith in
        subst (λ n. k * size given + r < n) measured (ranked_under k r s (size given) (size whole) below lower)

    -- for a row of parts
    pub row_falls : (parts given : List X) → given ≡ parts → most size parts < size seen → k * most size given + r < t
    row_falls parts given same smaller =
        let a = ap size is in
        let b = ap (most size) same in
        let lower : most size given < size whole = omega arith in
        subst (λ n. k * most size given + r < n) measured (ranked_under k r s (most size given) (size whole) below lower)

  -- for one of a row
  pub item_falls : r < s → (xs : List X) (i : ℕ) (x : X) → k * most size xs + s ≡ t → i < length xs → x ≡ get_or xs i x → k * size x + r < t
  item_falls lower xs i x measured there is =
      let a = ap size is in
      let b : size (get_or xs i x) ≤ most size xs = at_most size xs i x there in
      let c : size x ≤ most size xs = omega arith in
      subst (λ n. k * size x + r < n) measured (ranked_below k r s (size x) (most size xs) lower c)

-- a call for the same, by a function of a higher rank
pub rank_falls : (n r s t : ℕ) → r < s → n + s ≡ t → n + r < t
rank_falls n r s t lower measured = omega arith

-- a call of a function for a part of its argument
pub argument_falls : {X : Type 0} (size : X → ℕ) (t : ℕ) (whole seen part given : X) → size whole ≡ t → whole ≡ seen → given ≡ part → size part < size seen → size given < t
argument_falls size t whole seen part given measured is same smaller = let a = ap size is in let b = ap size same in omega arith

pub negation_smaller : (f : Box Formula Global) → the_size f.value < the_size (formula.Not f)
negation_smaller f = search (rules, of_formulas)

pub junction_smaller : (c : Connective) (fs : Vec Formula Global) → most the_size fs.items < the_size (formula.Junction c fs)
junction_smaller c fs = search (rules, of_formulas)

pub quantified_smaller : (q : Quantifier) (e : Expression) (f : Box Formula Global) → the_size f.value < the_size (formula.Quantified q e f)
quantified_smaller q e f = search (rules, of_formulas)

pub left_smaller : (o : Operator) (a b : Box Expression Global) → expression_size a.value < expression_size (expression.Binary o a b)
left_smaller o a b = search (rules, of_expressions)

pub right_smaller : (o : Operator) (a b : Box Expression Global) → expression_size b.value < expression_size (expression.Binary o a b)
right_smaller o a b = search (rules, of_expressions)

pub operand_smaller : (o : UnaryOperator) (a : Box Expression Global) → expression_size a.value < expression_size (expression.Unary o a)
operand_smaller o a = search (rules, of_expressions)
