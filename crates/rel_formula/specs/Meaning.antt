-- The value of an expression and the truth of a formula.
use Rattle.std.specs.Prelude.{◌≡◌, ◌≢◌, ◌⊎◌, ℕ, ◌∷◌, [], List, length, Some, slice_get, All, AllPairs}
use Rattle.tuple_core.specs.declared.atom.Atom.{Atom}
use Rattle.tuple_core.specs.Operators.{Pred, combined, turned}
use Rattle.rel_formula.specs.declared.connectives.Comparison.{Comparison}
use Rattle.rel_formula.specs.declared.connectives.Comparison.TheVariants as comparison
use Rattle.rel_formula.specs.declared.connectives.Connective.TheVariants as connective
use Rattle.rel_formula.specs.declared.connectives.Quantifier.{Quantifier}
use Rattle.rel_formula.specs.declared.connectives.Quantifier.TheVariants as quantifier
use Rattle.rel_formula.specs.Kernel.{ExpressionTree, rel, var, nothing, univ, iden, binary, unary}
use Rattle.rel_formula.specs.Kernel.{FormulaTree, compared, at_least, negation, junction, quantified, FormulaTrees, no_formulas, more_formulas}

-- what the relations hold: each one's tuples by its number, and the universe, which the top-level signatures share out
pub record Structure : Type 1 where
  pub values : ℕ → Pred
  pub universe : Pred

-- the tuple is in the value of the expression, where env has the variables' atoms, the innermost first
abbrev pub InValue : Structure → List Atom → ExpressionTree → Pred
InValue M env (rel r) t = M.values r t
InValue M env (var i) t = (a : Atom) × (slice_get env i ≡ Some a) × (t ≡ a ∷ [])
InValue M env nothing t = ⊥
InValue M env univ t = M.universe t
InValue M env iden t = (a : Atom) × M.universe (a ∷ []) × (t ≡ a ∷ a ∷ [])
InValue M env (binary o a b) t = combined o (InValue M env a) (InValue M env b) t
InValue M env (unary o a) t = turned o (InValue M env a) t

-- the set has n or more tuples
abbrev pub HasAtLeast : ℕ → Pred → Type 0
HasAtLeast n P = (ts : List (List Atom)) × (length ts ≡ n) × AllPairs (λ s t. s ≢ t) ts × All P ts

-- each tuple of the one set is in the other
abbrev pub IsWithin : Pred → Pred → Type 0
IsWithin P Q = (t : List Atom) → P t → Q t

-- each of the two sets is in the other
abbrev pub AreEqual : Pred → Pred → Type 0
AreEqual P Q = IsWithin P Q × IsWithin Q P

-- what a comparison says of two sets
abbrev pub Compares : Comparison → Pred → Pred → Type 0
Compares comparison.In P Q = IsWithin P Q
Compares comparison.Equal P Q = AreEqual P Q

-- so many atoms of the set have the fact: all, some, at most one
abbrev pub HoldsFor : Quantifier → Pred → (Atom → Type 0) → Type 0
HoldsFor quantifier.All P F = (a : Atom) → P (a ∷ []) → F a
HoldsFor quantifier.Exists P F = (a : Atom) × P (a ∷ []) × F a
HoldsFor quantifier.Lone P F = (a b : Atom) → P (a ∷ []) → F a → P (b ∷ []) → F b → a ≡ b

abbrev mutual
  -- the formula is true
  pub Truth : Structure → List Atom → FormulaTree → Type 0
  Truth M env (compared c a b) = Compares c (InValue M env a) (InValue M env b)
  Truth M env (at_least n e) = HasAtLeast n (InValue M env e)
  Truth M env (negation f) = Truth M env f → ⊥
  Truth M env (junction connective.And fs) = AllTrue M env fs
  Truth M env (junction connective.Or fs) = AnyTrue M env fs
  Truth M env (quantified q e f) = HoldsFor q (InValue M env e) (λ a. Truth M (a ∷ env) f)

  -- each formula of the list is true
  pub AllTrue : Structure → List Atom → FormulaTrees → Type 0
  AllTrue M env no_formulas = Unit {0}
  AllTrue M env (more_formulas f rest) = Truth M env f × AllTrue M env rest

  -- some formula of the list is true
  pub AnyTrue : Structure → List Atom → FormulaTrees → Type 0
  AnyTrue M env no_formulas = ⊥
  AnyTrue M env (more_formulas f rest) = Truth M env f ⊎ AnyTrue M env rest
