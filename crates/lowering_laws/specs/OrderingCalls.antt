-- What calls of an ordering's functions and predicates become.
use Rattle.std.specs.Prelude.{◌≡◌, ℕ, List, [], ◌∷◌, codes}
use Rattle.rel_formula.specs.Kernel.{ExpressionTree, transpose}
use Rattle.alloy_syntax.specs.declared.tree.Open.{Open}
use Rattle.alloy_syntax.specs.Tree.{ModelTree}
use Rattle.named_model.specs.Names.{callee_names}
use Rattle.named_model.specs.Declarations.{globals_of, number_in}
use Rattle.lowering_rules.specs.Parts.{Lowered, relation, formula}
use Rattle.lowering_rules.specs.Lowering.{base_of}
use Rattle.order_lib.specs.Library as library
use Rattle.lowering_laws.specs.Orders.{first_atom, last_atom, neighbours, all_behind, all_before, is_less, is_greater, or_equal}
use Rattle.lowering_laws.specs.OrderingTexts.{model_of, relations_of}

-- a call of the ordering's function or predicate of this name, under so many binders
abbrev pub call_of : ModelTree → Open → List ℕ → ℕ → List ExpressionTree → Lowered
call_of t o word = (base_of (model_of t)).calls (number_in (callee_names (globals_of t.paragraphs)) (library.own o word))

-- in a text with what orderings declare, a call of each name becomes the expression or the formula that the name stands for
pub record CallsBecome (t : ModelTree) (o : Open) : Type 0 where
  pub first : (d : ℕ) → call_of t o (codes "first") d [] ≡ relation (first_atom (relations_of t o))
  pub last : (d : ℕ) → call_of t o (codes "last") d [] ≡ relation (last_atom (relations_of t o))
  pub next : (d : ℕ) → call_of t o (codes "next") d [] ≡ relation (neighbours (relations_of t o))
  pub prev : (d : ℕ) → call_of t o (codes "prev") d [] ≡ relation (transpose (neighbours (relations_of t o)))
  pub nexts : (d : ℕ) (e : ExpressionTree) → call_of t o (codes "nexts") d (e ∷ []) ≡ relation (all_behind (relations_of t o) e)
  pub prevs : (d : ℕ) (e : ExpressionTree) → call_of t o (codes "prevs") d (e ∷ []) ≡ relation (all_before (relations_of t o) e)
  pub lt : (d : ℕ) (a b : ExpressionTree) → call_of t o (codes "lt") d (a ∷ b ∷ []) ≡ formula (is_less (relations_of t o) a b)
  pub gt : (d : ℕ) (a b : ExpressionTree) → call_of t o (codes "gt") d (a ∷ b ∷ []) ≡ formula (is_greater (relations_of t o) a b)
  pub lte : (d : ℕ) (a b : ExpressionTree) → call_of t o (codes "lte") d (a ∷ b ∷ []) ≡ formula (or_equal a b (is_less (relations_of t o) a b))
  pub gte : (d : ℕ) (a b : ExpressionTree) → call_of t o (codes "gte") d (a ∷ b ∷ []) ≡ formula (or_equal a b (is_greater (relations_of t o) a b))
