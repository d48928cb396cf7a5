-- The first fault of sorts and arities in a model, whose paragraphs are checked in the order of the text, and the model in
-- which no name is shared.
use Rattle.std.specs.Prelude.{ℕ, zero, suc, ◌+◌, ◌==◌, nat_le, List, [], ◌∷◌, map, length, drop, take, replicate, reverse, flat_map, slice_get, Bool, true, false, ◌||◌, if◌then◌else◌, Option, Some, None, is_some, option_map, Result, Ok, Err}
use Rattle.alloy_lex.specs.declared.token.Place.{Place}
use Rattle.alloy_syntax.specs.declared.tree.MultiplicityWord.{MultiplicityWord}
use Rattle.alloy_syntax.specs.declared.tree.Multiplicity.TheVariants as multiplicity
use Rattle.alloy_syntax.specs.declared.tree.Operator.TheVariants as operator
use Rattle.named_model.specs.declared.named.Part.{Part}
use Rattle.named_model.specs.declared.named.Part.TheVariants as part
use Rattle.named_model.specs.Phrase.{PhraseTree, bracketed, chain, LinkTrees, no_links, more_links, DomainTrees, no_domains, more_domains}
use Rattle.named_model.specs.Model.{FieldTree, MeaningTree, formulas, value, CalleeTree, TargetTree, at_predicate, at_assertion, at_block, CommandTree, NamedTree}
use Rattle.named_model.specs.Signatures.{top_of}
use Rattle.named_model.specs.Answers.{◌>>=◌}
use Rattle.model_types.specs.declared.fault.TypeFault.{TypeFault}
use Rattle.model_types.specs.declared.fault.TypeFault.TheVariants as fault
use Rattle.model_types.specs.Bounding.{Lists, type_of, products}
use Rattle.model_types.specs.Sorts.{Kind, relation, formula, Checked, unless, first_place, as_relation}
use Rattle.model_types.specs.Typing.{Local, Field, Header, Declared, types_in, type_in, Settled, settled, formulas_settled, domains_settled, onto, fits}

-- ---- fields

abbrev mutual
  -- the arity of a bound by its first operands, whatever is wrong with it
  pub bound_arity : PhraseTree → ℕ
  bound_arity (bracketed p x) = bound_arity x
  bound_arity (chain x ls) = bound_arity x + arrows_arity ls
  bound_arity x = 1

  pub arrows_arity : LinkTrees → ℕ
  arrows_arity no_links = 0
  arrows_arity (more_links operator.Product p x ls) = bound_arity x + arrows_arity ls
  arrows_arity (more_links o p x ls) = 0

-- the signatures alone: all that a bound can name
abbrev pub signatures_alone : NamedTree → Declared
signatures_alone m = record { signatures = m.signatures; fields = []; callee = λ n. None }

abbrev pub field_declared : NamedTree → FieldTree → Field
field_declared m f = record {
  name = f.name;
  top = top_of m.signatures f.owner;
  arity = bound_arity f.bound + 1;
  type = products ((top_of m.signatures f.owner ∷ []) ∷ []) (type_in (signatures_alone m) [] f.bound);
}

-- ---- predicates and functions

-- a domain where it has no fault
abbrev pub local_of : Declared → List Local → PhraseTree → Result Settled TypeFault → Option Local
local_of d locals x (Err e) = None
local_of d locals x (Ok y) = elim y.kind [ relation n ↦ Some (record { arity = n; type = type_in d locals y.tree }) | other ↦ None ]

-- a domain with a fault counts as unary and of no type
abbrev pub or_unknown : Option Local → Local
or_unknown None = record { arity = 1; type = [] }
or_unknown (Some l) = l

-- a domain of so many parameters, with its first token
pub record Domain : Type 0 where
  pub place : Place
  pub count : ℕ
  pub local : Option Local

abbrev pub domains_known : Declared → List Local → DomainTrees → List Domain
domains_known d locals no_domains = []
domains_known d locals (more_domains disjoint n mark x ds) =
    let l = local_of d locals x (settled d locals [] x) in
    record { place = first_place x; count = n; local = l } ∷ domains_known d (onto n (or_unknown l) locals) ds

abbrev pub parameters_known : List Domain → List (Option Local)
parameters_known = flat_map (λ (e : Domain). replicate e.count e.local)

abbrev pub kind_known : Result Settled TypeFault → Kind
kind_known (Err e) = relation 1
kind_known (Ok y) = elim y.kind [ relation n ↦ relation n | other ↦ relation 1 ]

-- a call stands for the body with the arguments in place of the parameters
abbrev pub type_known : Declared → Result Settled TypeFault → List Lists → Lists
type_known d (Err e) arguments = []
type_known d (Ok y) arguments = type_of (types_in d) (reverse arguments) y.tree

abbrev pub header_with : Declared → List (Option Local) → MeaningTree → Header
header_with d ls (formulas xs) = record { parameters = map (option_map (λ (l : Local). l.arity)) ls; kind = formula; type = λ arguments. [] }
header_with d ls (value range body) =
    let locals = reverse (map or_unknown ls) in
    record {
      parameters = map (option_map (λ (l : Local). l.arity)) ls;
      kind = kind_known (settled d locals [] range);
      type = type_known d (settled d locals [] body);
    }

abbrev pub header_of : Declared → CalleeTree → Header
header_of d c = header_with d (parameters_known (domains_known d [] c.parameters)) c.meaning

-- what is known of the predicates and functions that call no others more than so many calls deep
abbrev pub callee_within : NamedTree → ℕ → ℕ → Option Header
callee_within m zero c = None
callee_within m (suc n) c =
    option_map (header_of (record { signatures = m.signatures; fields = map (field_declared m) m.fields; callee = callee_within m n })) (slice_get m.callees c)

-- none calls itself, so no call is nested deeper than there are predicates and functions
abbrev pub declared_in : NamedTree → Declared
declared_in m = record { signatures = m.signatures; fields = map (field_declared m) m.fields; callee = callee_within m (length m.callees) }

-- ---- checking fields

-- the two sides of a bound that is one arrow, in brackets or not
abbrev pub only_link : PhraseTree → LinkTrees → Option (PhraseTree × PhraseTree)
only_link x (more_links o p y no_links) = Some (x, y)
only_link x ls = None

abbrev pub sides_of : PhraseTree → Option (PhraseTree × PhraseTree)
sides_of (bracketed p x) = sides_of x
sides_of (chain x ls) = only_link x ls
sides_of x = None

abbrev pub unary : Declared → PhraseTree → Checked
unary d x = settled d [] [] x >>= λ y. as_relation (first_place x) y.kind >>= λ n. unless (n == 1) (fault.NotUnary (first_place x))

abbrev pub sides_unary : Declared → Option (PhraseTree × PhraseTree) → Checked
sides_unary d None = Ok tt
sides_unary d (Some sides) = unary d sides.0 >>= λ left. unary d sides.1

-- each side of an arrow with a word has to be unary
abbrev pub arrow_checked : Declared → FieldTree → Checked
arrow_checked d f = if is_some f.left || is_some f.right then sides_unary d (sides_of f.bound) else Ok tt

abbrev pub wants_unary : Option MultiplicityWord → Bool
wants_unary None = false
wants_unary (Some mark) = elim mark.multiplicity [ multiplicity.Set ↦ false | multiplicity.One ↦ true | multiplicity.Lone ↦ true | multiplicity.Some ↦ true ]

abbrev pub field_checked : Declared → FieldTree → Checked
field_checked d f = do
  y ← settled d [] [] f.bound
  n ← as_relation (first_place f.bound) y.kind
  sides ← arrow_checked d f
  one ← unless (if wants_unary f.mark then n == 1 else true) (fault.NotUnary (first_place f.bound))
  unless (nat_le n 2) (fault.ArityTooLarge f.place)

abbrev pub fields_checked : Declared → List FieldTree → Checked
fields_checked d [] = Ok tt
fields_checked d (f ∷ fs) = field_checked d f >>= λ one. fields_checked d fs

-- ---- settling paragraphs

abbrev pub meaning_settled : Declared → List Local → MeaningTree → Result MeaningTree TypeFault
meaning_settled d locals (formulas xs) = formulas_settled d locals xs >>= λ ys. Ok (formulas ys)
meaning_settled d locals (value range body) = do
  r ← settled d locals [] range
  m ← as_relation (first_place range) r.kind
  b ← settled d locals [] body
  n ← as_relation (first_place body) b.kind
  same ← unless (m == n) (fault.Arity (first_place body))
  Ok (value r.tree b.tree)

abbrev pub callee_settled : Declared → CalleeTree → Result CalleeTree TypeFault
callee_settled d c = do
  es ← domains_settled false d [] c.parameters
  x ← meaning_settled d es.1 c.meaning
  Ok (record c { parameters = es.0; meaning = x })

-- the parameters of a predicate that is run have to be unary, as far as their domains have an arity
abbrev pub domains_unary : List Domain → Checked
domains_unary [] = Ok tt
domains_unary (e ∷ es) = unless (fits (option_map (λ (l : Local). l.arity) e.local) 1) (fault.NotUnary e.place) >>= λ one. domains_unary es

abbrev pub run_checked : Declared → Option CalleeTree → Checked
run_checked d None = Ok tt
run_checked d (Some c) = domains_unary (domains_known d [] c.parameters)

abbrev pub target_settled : NamedTree → Declared → TargetTree → Result TargetTree TypeFault
target_settled m d (at_block xs) = formulas_settled d [] xs >>= λ ys. Ok (at_block ys)
target_settled m d (at_predicate n) = run_checked d (slice_get m.callees n) >>= λ one. Ok (at_predicate n)
target_settled m d (at_assertion n) = Ok (at_assertion n)

abbrev pub command_settled : NamedTree → Declared → CommandTree → Result CommandTree TypeFault
command_settled m d c = target_settled m d c.target >>= λ t. Ok (record c { target = t })

-- ---- models

-- done where there is a value, or the fault
abbrev pub checked : {X : Type 0} → Result X TypeFault → Checked
checked (Ok x) = Ok tt
checked (Err e) = Err e

-- the thing of a number, if there is one
abbrev pub checked_at : {X Y : Type 0} → (X → Result Y TypeFault) → List X → ℕ → Checked
checked_at f xs n = elim (slice_get xs n) [ None ↦ Ok tt | Some x ↦ checked (f x) ]

abbrev pub part_checked : NamedTree → Declared → Part → Checked
part_checked m d (part.Fields first count) = fields_checked d (take count (drop first m.fields))
part_checked m d (part.Fact n) = checked_at (formulas_settled d []) m.facts n
part_checked m d (part.Callee n) = checked_at (callee_settled d) m.callees n
part_checked m d (part.Assertion n) = checked_at (formulas_settled d []) m.assertions n
part_checked m d (part.Command n) = checked_at (command_settled m d) m.commands n

abbrev pub parts_checked : NamedTree → Declared → List Part → Checked
parts_checked m d [] = Ok tt
parts_checked m d (p ∷ ps) = part_checked m d p >>= λ one. parts_checked m d ps

-- whether the model has types, and the fault that is told
abbrev pub types_checked : NamedTree → Checked
types_checked m = parts_checked m (declared_in m) m.parts

-- a thing with its shared names settled; as it is, where it has a fault
abbrev pub or_same : {X : Type 0} → (X → Result X TypeFault) → X → X
or_same f x = elim (f x) [ Ok y ↦ y | Err e ↦ x ]

-- the model in which no name is shared
abbrev pub settled_in : NamedTree → NamedTree
settled_in m = let d = declared_in m in record m {
  callees = map (or_same (callee_settled d)) m.callees;
  facts = map (or_same (formulas_settled d [])) m.facts;
  assertions = map (or_same (formulas_settled d [])) m.assertions;
  commands = map (or_same (command_settled m d)) m.commands;
}
