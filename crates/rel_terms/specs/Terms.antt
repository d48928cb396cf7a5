-- The number of terms of a problem: the size of what a translation of its formula looks at, over the upper values.
use Rattle.std.specs.Prelude.{◌≡◌, ◌+◌, ◌≤◌, ◌^◌, ℕ, List, [], ◌∷◌, ◌++◌, map}
use Rattle.tuple_core.specs.declared.atom.Atom.{Atom}
use Rattle.tuple_core.specs.declared.operator.Operator.{Operator}
use Rattle.tuple_core.specs.declared.operator.Operator.TheVariants as operator
use Rattle.tuple_core.specs.declared.operator.UnaryOperator.{UnaryOperator}
use Rattle.tuple_core.specs.declared.operator.UnaryOperator.TheVariants as unary_operator
use Rattle.tuple_core.specs.Operators.{Pred, Closed}
use Rattle.rel_formula.specs.declared.connectives.Comparison.{Comparison}
use Rattle.rel_formula.specs.declared.connectives.Comparison.TheVariants as comparison
use Rattle.rel_formula.specs.declared.connectives.Quantifier.{Quantifier}
use Rattle.rel_formula.specs.declared.connectives.Quantifier.TheVariants as quantifier
use Rattle.rel_formula.specs.Kernel.{ExpressionTree, rel, var, nothing, univ, iden, binary, unary}
use Rattle.rel_formula.specs.Kernel.{FormulaTree, compared, at_least, negation, junction, quantified, FormulaTrees, no_formulas, more_formulas}
use Rattle.rel_formula.specs.Bounds.{Bounded, HasFewAtoms, HasDisjointTops}
use Rattle.rel_formula.specs.Meaning.{Structure}
use Rattle.rel_formula.specs.Sizes.{IsListOf, HasSize}
use Rattle.rel_terms.specs.Numbers.{Number, Is, ◌⊕◌, ◌⊗◌}
use Rattle.rel_terms.specs.Upper.{InUpper, IsAtomAt, upper_structure}

-- a tuple of the one set followed by one of the other, where the last atom of the first and the first atom of the second
-- are equal: as many as there are such pairs of tuples of two sets that have an arity each
abbrev pub Meeting : Pred → Pred → Pred
Meeting P Q t = (x : List Atom) × (m : Atom) × (y : List Atom) × P (x ++ m ∷ []) × Q (m ∷ y) × (t ≡ (x ++ m ∷ []) ++ m ∷ y)

-- the sum of a number for each atom of the list
abbrev pub SumsTo : (Atom → Number) → List Atom → Number
SumsTo C [] n = Is 0 n
SumsTo C (a ∷ rest) n = (C a ⊕ SumsTo C rest) n

-- a sum over the atoms of a unary set
abbrev pub SumsOver : Pred → (Atom → Number) → Number
SumsOver P C n = (atoms : List Atom) × IsListOf P (map (λ a. a ∷ []) atoms) × SumsTo C atoms n

-- what the expression may have, where the variables are these atoms
abbrev pub InUpperAt : Structure → List Atom → ExpressionTree → Pred
InUpperAt M env e = InUpper M (IsAtomAt env) e

-- the number of these tuples
abbrev pub UpperHas : Structure → List Atom → ExpressionTree → Number
UpperHas M env e = HasSize (InUpperAt M env e)

-- what an operator adds to the terms of its operands, over their upper values
abbrev pub own_terms : Operator → Pred → Pred → Number
own_terms operator.Union P Q = HasSize P ⊕ HasSize Q
own_terms operator.Minus P Q = HasSize P ⊕ HasSize Q
own_terms operator.Meet P Q = HasSize P ⊕ HasSize Q
own_terms operator.Product P Q = HasSize P ⊗ HasSize Q
own_terms operator.Join P Q = HasSize (Meeting P Q)
own_terms operator.Override P Q = HasSize P ⊕ Is 2 ⊗ HasSize Q
own_terms operator.Dom P Q = HasSize Q
own_terms operator.Ran P Q = HasSize P

-- and to those of one operand
abbrev pub turn_terms : UnaryOperator → Pred → Number
turn_terms unary_operator.Transpose P = HasSize P
turn_terms unary_operator.Closure P = Is 6 ⊗ HasSize (Meeting (Closed P) (Closed P))

-- the expression has n terms
abbrev pub ExpressionHas : Structure → List Atom → ExpressionTree → Number
ExpressionHas M env (rel r) n = UpperHas M env (rel r) n
ExpressionHas M env (var i) n = UpperHas M env (var i) n
ExpressionHas M env nothing n = UpperHas M env nothing n
ExpressionHas M env univ n = UpperHas M env univ n
ExpressionHas M env iden n = UpperHas M env iden n
ExpressionHas M env (binary o a b) n = (ExpressionHas M env a ⊕ ExpressionHas M env b ⊕ own_terms o (InUpperAt M env a) (InUpperAt M env b)) n
ExpressionHas M env (unary o a) n = (ExpressionHas M env a ⊕ turn_terms o (InUpperAt M env a)) n

-- what a comparison adds to the terms of its operands
abbrev pub compared_terms : Comparison → Pred → Pred → Number
compared_terms comparison.In P Q = HasSize P
compared_terms comparison.Equal P Q = HasSize P ⊕ HasSize Q

-- what a quantifier adds for each atom to the terms of its formula
abbrev pub each_terms : Quantifier → ℕ
each_terms quantifier.All = 1
each_terms quantifier.Exists = 1
each_terms quantifier.Lone = 2

abbrev mutual
  -- the formula has n terms
  pub FormulaHas : Structure → List Atom → FormulaTree → Number
  FormulaHas M env (compared c a b) n = (ExpressionHas M env a ⊕ ExpressionHas M env b ⊕ compared_terms c (InUpperAt M env a) (InUpperAt M env b)) n
  FormulaHas M env (at_least m e) n = (ExpressionHas M env e ⊕ UpperHas M env e ⊗ Is (m + 1)) n
  FormulaHas M env (negation f) n = (Is 1 ⊕ FormulaHas M env f) n
  FormulaHas M env (junction c fs) n = (Is 1 ⊕ FormulasHave M env fs) n
  FormulaHas M env (quantified q e f) n = (ExpressionHas M env e ⊕ SumsOver (InUpperAt M env e) (λ a. Is (each_terms q) ⊕ FormulaHas M (a ∷ env) f)) n

  -- the formulas of the list have n terms together
  pub FormulasHave : Structure → List Atom → FormulaTrees → Number
  FormulasHave M env no_formulas n = Is 0 n
  FormulasHave M env (more_formulas f fs) n = (FormulaHas M env f ⊕ FormulasHave M env fs) n

-- the problem's formula has n terms
abbrev pub HasTerms : Bounded → Number
HasTerms p = FormulaHas (upper_structure p) [] p.formula

-- what a translation asks of a problem: at most 64 atoms, disjoint top-level signatures, at most 262,144 terms
pub record IsTranslatable (p : Bounded) : Type 0 where
  pub few_atoms : HasFewAtoms p
  pub disjoint_tops : HasDisjointTops p
  pub few_terms : (n : ℕ) × HasTerms p n × (n ≤ 2 ^ 18)
