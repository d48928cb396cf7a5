-- What a translation makes, and how many nodes it may spend.
use Rattle.std.specs.Prelude.{◌<◌, ◌≤◌, ◌+◌, ◌*◌, ◌⊎◌, ℕ, Bool, List}
use Rattle.tuple_core.specs.declared.atom.Atom.{Atom}
use Rattle.bool_circuit.specs.Network.{Network, size}
use Rattle.bool_circuit.specs.Value.{Extends}
use Rattle.bool_circuit.specs.Folding.{IsConstant}
use Rattle.bool_matrix.specs.Cells.{Cells, Says}
use Rattle.rel_formula.specs.Bounds.{Bounded}
use Rattle.rel_formula.specs.Kernel.{ExpressionTree, FormulaTree}
use Rattle.rel_formula.specs.Meaning.{InValue, Truth}
use Rattle.rel_formula.specs.Shape.{arity_of}
use Rattle.rel_terms.specs.Numbers.{Number, ◌⊕◌}
use Rattle.rel_terms.specs.Upper.{upper_structure}
use Rattle.rel_terms.specs.Terms.{InUpperAt, ExpressionHas, FormulaHas}
use Rattle.rel_terms.specs.Counting.{arities_of}
use Rattle.rel_translate.specs.Tables.{structure_at, IsWell}

-- beside so many nodes there is room for 16 nodes for each of the terms
abbrev pub HasRoomFor : ℕ → Number → Type 0
HasRoomFor used Terms = (n : ℕ) × Terms n × (used + 16 * n < 1073741823)

-- the circuit has grown, by at most 16 nodes for each of the terms
pub record Spends (old new : Network) (Terms : Number) : Type 0 where
  pub extends : Extends old new
  pub most : (n : ℕ) → Terms n → size new ≤ size old + 16 * n

-- the terms of an expression, and of a formula, where env has the variables' atoms, the innermost first
abbrev pub TermsOf : Bounded → List Atom → ExpressionTree → Number
TermsOf p env e = ExpressionHas (upper_structure p) env e

abbrev pub FormulaTermsOf : Bounded → List Atom → FormulaTree → Number
FormulaTermsOf p env f = FormulaHas (upper_structure p) env f

-- the matrix of an expression: the true tuples are those of its value, and those that are there are those of its upper value
abbrev pub IsMatrixFor : Network → Bounded → List Atom → ExpressionTree → Cells → Type 0
IsMatrixFor network p env e m = IsWell network m (arity_of (arities_of p) e) (λ s. InValue (structure_at p s) env e) (InUpperAt (upper_structure p) env e)

-- the matrix of an expression was made
pub record IsMade (old new : Network) (p : Bounded) (env : List Atom) (e : ExpressionTree) (m : Cells) : Type 0 where
  pub spends : Spends old new (TermsOf p env e)
  pub is : IsMatrixFor new p env e m

-- and those of two
pub record AreMade (old new : Network) (p : Bounded) (env : List Atom) (a b : ExpressionTree) (l r : Cells) : Type 0 where
  pub spends : Spends old new (TermsOf p env a ⊕ TermsOf p env b)
  pub left : IsMatrixFor new p env a l
  pub right : IsMatrixFor new p env b r

-- a node was made that is true just where the inputs have this fact; it is a constant, or a node of the 16 for each term is left
pub record Tells (old new : Network) (node : ℕ) (Fact : (ℕ → Bool) → Type 0) (Terms : Number) : Type 0 where
  pub spends : Spends old new Terms
  pub says : Says new node Fact
  pub spare : (n : ℕ) → Terms n → IsConstant new node ⊎ (size new < size old + 16 * n)

-- the node of a formula was made
abbrev pub IsTold : Network → Network → Bounded → List Atom → FormulaTree → ℕ → Type 0
IsTold old new p env f node = Tells old new node (λ s. Truth (structure_at p s) env f) (FormulaTermsOf p env f)
