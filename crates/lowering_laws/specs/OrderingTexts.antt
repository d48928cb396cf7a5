-- The orderings of a text in the problems of its commands.
use Rattle.std.specs.Prelude.{◌≡◌, ◌↔◌, ℕ, ◌+◌, List, [], ◌∷◌, length, All, Contains, codes}
use Rattle.std.specs.List.{range_with_len}
use Rattle.tuple_core.specs.declared.atom.Atom.{Atom}
use Rattle.rel_formula.specs.Bounds.{Bounded}
use Rattle.rel_formula.specs.Instance.{InRelation}
use Rattle.alloy_lex.specs.Fronts.{slash}
use Rattle.alloy_syntax.specs.declared.tree.Open.{Open}
use Rattle.alloy_syntax.specs.Tree.{ModelTree}
use Rattle.named_model.specs.Model.{NamedTree}
use Rattle.named_model.specs.Names.{callee_names}
use Rattle.named_model.specs.Declarations.{globals_of, number_in, named_of}
use Rattle.model_types.specs.Models.{settled_in}
use Rattle.lowering_rules.specs.Lowering.{field_number}
use Rattle.order_lib.specs.Library as library
use Rattle.lowering_laws.specs.Orders.{Ordering, IsOrdered}

abbrev pub HasNoSlash : List ℕ → Type 0
HasNoSlash text = Contains text slash → ⊥

-- the names that a text declares itself have no slash, which those of orderings have
pub record HasPlainNames (t : ModelTree) : Type 0 where
  pub signatures : All HasNoSlash (globals_of t.paragraphs).signatures
  pub fields : All HasNoSlash (globals_of t.paragraphs).fields
  pub callees : All HasNoSlash (callee_names (globals_of t.paragraphs))

-- the model that is lowered: every name is tied to its declaration, and no name is shared
abbrev pub model_of : ModelTree → NamedTree
model_of t = settled_in (named_of t)

-- the numbers of the facts that the orderings of a text declare, which stand behind its own
abbrev pub order_facts : ModelTree → List ℕ
order_facts t = range_with_len (1 + length (named_of t).facts) (length t.opens)

-- the relations of an ordering in the problems of a text with what orderings declare
abbrev pub relations_of : ModelTree → Open → Ordering
relations_of t o =
    let g = globals_of t.paragraphs in
    let signatures = length (named_of t).signatures in
    record {
      signature = number_in g.signatures o.signature;
      own = number_in g.signatures (library.own o (codes "Ord"));
      first = field_number signatures (number_in g.fields (library.own o (codes "First")));
      next = field_number signatures (number_in g.fields (library.own o (codes "Next")));
    }

-- the ordering's own signature has one atom, for which the fields are the first atom and the neighbours in some list of all
-- atoms of the ordered signature, each once
pub record OrdersAtoms (p : Bounded) (s : List ℕ) (o : Ordering) : Type 0 where
  pub own : Atom
  pub alone : (t : List Atom) → InRelation p (Contains s) o.own t ↔ (t ≡ own ∷ [])
  pub ordered : IsOrdered p s o own
