-- Values that lie in bounding types.
use Rattle.std.specs.Prelude.{◌≡◌, ◌≤◌, ℕ, List, [], ◌∷◌, Bool, length, reverse, slice_index_or, Ok, All, Contains}
use Rattle.std.specs.List.{AllZip}
use Rattle.tuple_core.specs.declared.atom.Atom.{Atom}
use Rattle.tuple_core.specs.Operators.{Pred}
use Rattle.rel_formula.specs.Kernel.{ExpressionTree}
use Rattle.rel_formula.specs.Bounds.{Bounded}
use Rattle.rel_formula.specs.Meaning.{InValue, IsWithin}
use Rattle.rel_formula.specs.Instance.{structure_of}
use Rattle.named_model.specs.Phrase.{PhraseTree, PhraseTrees, DomainTrees}
use Rattle.named_model.specs.Model.{NamedTree}
use Rattle.model_types.specs.Bounding.{Lists}
use Rattle.model_types.specs.Sorts.{relation}
use Rattle.model_types.specs.Typing as typing
use Rattle.model_types.specs.Typing.{type_in, local_types, settled, domains_settled, values_settled}
use Rattle.model_types.specs.Models.{declared_in, settled_in}
use Rattle.lowering_rules.specs.Parts.{expression_in}
use Rattle.lowering_rules.specs.Binders.{Local, local_at, arguments, behind_domains}
use Rattle.lowering_rules.specs.Lowering.{base_of, lowered, domains_lowered, behind_values}
use Rattle.lowering_rules.specs.Relations.{InProducts}
use Rattle.lowering_rules.specs.Problem.{ProblemOf}

-- where a part of a body is read: in a problem of the model with some cells, under variables that are these atoms, the
-- innermost first, and behind local names, of which it is known what they are and what they stand for
pub record Context (m : NamedTree) : Type 0 where
  pub command : ℕ
  pub facts : List ℕ
  pub problem : Bounded
  pub is : ProblemOf (settled_in m) command facts problem
  pub cells : List ℕ
  pub atoms : List Atom
  pub locals : List typing.Local
  pub names : List Local

-- the value of an expression under variables that are these atoms
abbrev pub InValueUnder : (m : NamedTree) → Context m → List Atom → ExpressionTree → Pred
InValueUnder m w atoms e = InValue (structure_of w.problem (Contains w.cells)) atoms e

-- the value of an expression lies in a type: each of its tuples has a place of each signature of some list
abbrev pub LiesIn : (m : NamedTree) → Context m → Lists → ExpressionTree → Type 0
LiesIn m w type e = IsWithin (InValueUnder m w w.atoms e) (InProducts w.is.sizes type)

-- what a local name stands for lies in the type that is known of it
abbrev pub LocalsLieIn : (m : NamedTree) → Context m → Type 0
LocalsLieIn m w = (i : ℕ) → LiesIn m w (slice_index_or (local_types w.locals) i []) (local_at w.names i (length w.atoms))

-- what a part without a fault becomes lies in the type of the part, if it is a relation
abbrev pub ValuesLieInTypes : NamedTree → Type 0
ValuesLieInTypes m =
    (w : Context m) → LocalsLieIn m w → (tops : List ℕ) (x y : PhraseTree) (n : ℕ)
    → settled (declared_in m) w.locals tops x ≡ Ok (record { tree = y; kind = relation n })
    → LiesIn m w (type_in (declared_in m) w.locals y) (expression_in (lowered (base_of (settled_in m)) w.names (length w.atoms) y))

-- ---- behind more local names

-- what local names stand for was made under no more variables than there are
abbrev pub AreOutside : (m : NamedTree) → Context m → Type 0
AreOutside m w = All (λ (l : Local). l.depth ≤ length w.atoms) w.names

-- variables with these domains are the atoms by which `inner` is longer
abbrev pub Enter : (m : NamedTree) → Context m → List Atom → List ExpressionTree → List Atom → Type 0
Enter m w atoms [] inner = inner ≡ atoms
Enter m w atoms (e ∷ es) inner = (a : Atom) × InValueUnder m w atoms e (a ∷ []) × Enter m w (a ∷ atoms) es inner

-- variables lie in the types of their domains
abbrev pub VariablesLieInTypes : NamedTree → Type 0
VariablesLieInTypes m =
    (w : Context m) → LocalsLieIn m w → AreOutside m w → (single : Bool) (ds es : DomainTrees) (behind : List typing.Local) (inner : List Atom)
    → domains_settled single (declared_in m) w.locals ds ≡ Ok (es, behind)
    → Enter m w w.atoms (domains_lowered (base_of (settled_in m)) w.names (length w.atoms) es) inner →
    let v : Context m = record w { atoms = inner; locals = behind; names = behind_domains (length w.atoms) es w.names } in
    LocalsLieIn m v × AreOutside m v

-- parameters lie in types where what is given for them does; the last one is the innermost
abbrev pub ParametersLieInTypes : NamedTree → Type 0
ParametersLieInTypes m =
    (w : Context m) (es : List ExpressionTree) (parameters : List typing.Local) → AllZip (λ (e : ExpressionTree) (l : typing.Local). LiesIn m w l.type e) es parameters →
    let v : Context m = record w { locals = reverse parameters; names = arguments (length w.atoms) es } in
    LocalsLieIn m v × AreOutside m v

-- names of a `let` lie in the types of their values
abbrev pub LetNamesLieInTypes : NamedTree → Type 0
LetNamesLieInTypes m =
    (w : Context m) → LocalsLieIn m w → AreOutside m w → (xs ys : PhraseTrees) (behind : List typing.Local)
    → values_settled (declared_in m) w.locals xs ≡ Ok (ys, behind) →
    let v : Context m = record w { locals = behind; names = behind_values (base_of (settled_in m)) w.names (length w.atoms) ys } in
    LocalsLieIn m v × AreOutside m v
