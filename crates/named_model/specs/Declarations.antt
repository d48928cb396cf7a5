-- What a model declares, and the model with every name tied to its declaration.
use Rattle.std.specs.Prelude.{ℕ, List, [], ◌∷◌, ◌++◌, map, length, flat_map, Bool, true, false, Option, None, option_map, unwrap_or}
use Rattle.alloy_syntax.specs.declared.tree.Name.{Name}
use Rattle.alloy_syntax.specs.declared.tree.MultiplicityWord.{MultiplicityWord}
use Rattle.alloy_syntax.specs.declared.tree.Operator.TheVariants as operator
use Rattle.alloy_syntax.specs.declared.tree.Parent.{Parent}
use Rattle.alloy_syntax.specs.declared.tree.Entry.{Entry}
use Rattle.alloy_syntax.specs.declared.tree.CommandKind.{CommandKind}
use Rattle.alloy_syntax.specs.declared.tree.CommandKind.TheVariants as command_kind
use Rattle.alloy_syntax.specs.Tree as tree
use Rattle.alloy_syntax.specs.Tree.{DeclarationTree, declarations_of, trees_of, BoundTree, BoundUnions, BoundArrows, ParagraphTree, ModelTree}
use Rattle.named_model.specs.declared.phrase.Referent.TheVariants as referent
use Rattle.named_model.specs.declared.named.Signature.{Signature}
use Rattle.named_model.specs.declared.named.Part.{Part}
use Rattle.named_model.specs.declared.named.Part.TheVariants as part
use Rattle.named_model.specs.Phrase.{PhraseTree, refers, bracketed, chain, PhraseTrees, LinkTrees, no_links, more_links}
use Rattle.named_model.specs.Model.{FieldTree, formulas, value, CalleeTree, TargetTree, at_predicate, at_assertion, at_block, ScopeTree, CommandTree, NamedTree}
use Rattle.named_model.specs.Names.{Header, Globals, number_of, callee_names, behind_declarations, resolved, all_resolved, declarations_resolved}

-- ---- the global names

abbrev pub texts : List Name → List (List ℕ)
texts = map (λ n. n.text)

abbrev pub parameter_names : List DeclarationTree → List Name
parameter_names = flat_map (λ (d : DeclarationTree). d.names)

abbrev pub signature_names : ParagraphTree → List Name
signature_names (tree.signatures is_abstract mark names parent fields) = names
signature_names paragraph = []

-- the names of fields, each once for each signature of its paragraph
abbrev pub field_names : ParagraphTree → List Name
field_names (tree.signatures is_abstract mark names parent fields) =
    flat_map (λ (f : tree.FieldTree). flat_map (λ (n : Name). map (λ (owner : Name). n) names) f.names) fields
field_names paragraph = []

abbrev pub headers : ParagraphTree → List Header
headers (tree.predicate n ds b) = record { name = n.text; is_function = false; parameters = length (parameter_names ds) } ∷ []
headers (tree.function n ds mark range body) = record { name = n.text; is_function = true; parameters = length (parameter_names ds) } ∷ []
headers paragraph = []

abbrev pub assertion_names : ParagraphTree → List Name
assertion_names (tree.assertion n b) = n ∷ []
assertion_names paragraph = []

abbrev pub globals_of : List ParagraphTree → Globals
globals_of paragraphs = record {
  signatures = texts (flat_map signature_names paragraphs);
  fields = texts (flat_map field_names paragraphs);
  callees = flat_map headers paragraphs;
  assertions = texts (flat_map assertion_names paragraphs);
}

-- the number of a global name; a name that is not there is a fault, and its number is any
abbrev pub number_in : List (List ℕ) → Name → ℕ
number_in names n = unwrap_or (number_of names n.text) 0

-- ---- fields

abbrev mutual
  pub bound_resolved : Globals → BoundTree → PhraseTree
  bound_resolved g (tree.bound_named n) = refers n.place (referent.Signature (number_in g.signatures n))
  bound_resolved g (tree.bound_bracketed p b) = bracketed p (bound_resolved g b)
  bound_resolved g (tree.bound_union b us) = chain (bound_resolved g b) (unions_resolved g us)
  bound_resolved g (tree.bound_arrows b arrows) = chain (bound_resolved g b) (arrows_resolved g arrows)

  pub unions_resolved : Globals → BoundUnions → LinkTrees
  unions_resolved g tree.no_unions = no_links
  unions_resolved g (tree.more_unions p b us) = more_links operator.Union p (bound_resolved g b) (unions_resolved g us)

  pub arrows_resolved : Globals → BoundArrows → LinkTrees
  arrows_resolved g tree.no_arrows = no_links
  arrows_resolved g (tree.more_arrows l p r b arrows) = more_links operator.Product p (bound_resolved g b) (arrows_resolved g arrows)

-- the words beside the first arrow of a bound that is an arrow, in brackets or not
abbrev pub words_of : BoundArrows → Option MultiplicityWord × Option MultiplicityWord
words_of tree.no_arrows = (None, None)
words_of (tree.more_arrows l p r b rest) = (l, r)

abbrev pub words_beside : BoundTree → Option MultiplicityWord × Option MultiplicityWord
words_beside (tree.bound_named n) = (None, None)
words_beside (tree.bound_bracketed p b) = words_beside b
words_beside (tree.bound_union b us) = (None, None)
words_beside (tree.bound_arrows b arrows) = words_of arrows

abbrev pub field_named : Globals → tree.FieldTree → Name → Name → FieldTree
field_named g f n owner = record {
  name = n.text;
  place = n.place;
  owner = number_in g.signatures owner;
  mark = f.mark;
  left = (words_beside f.bound).0;
  right = (words_beside f.bound).1;
  bound = bound_resolved g f.bound;
}

-- the fields of a paragraph: name by name, each once for each signature
abbrev pub fields_named : Globals → ParagraphTree → List FieldTree
fields_named g (tree.signatures is_abstract mark names parent fields) =
    flat_map (λ (f : tree.FieldTree). flat_map (λ (n : Name). map (field_named g f n) names) f.names) fields
fields_named g paragraph = []

-- ---- signatures

abbrev pub signature_named : Globals → Bool → Option MultiplicityWord → Option Parent → Name → Signature
signature_named g is_abstract mark parent n = record {
  name = n.text;
  place = n.place;
  is_abstract = is_abstract;
  mark = mark;
  parent = option_map (λ (p : Parent). (p.manner, number_in g.signatures p.name)) parent;
}

abbrev pub signatures_named : Globals → ParagraphTree → List Signature
signatures_named g (tree.signatures is_abstract mark names parent fields) = map (signature_named g is_abstract mark parent) names
signatures_named g paragraph = []

-- ---- predicates, functions, facts and assertions

-- the local names in the body of a predicate or a function
abbrev pub parameters_of : List DeclarationTree → List (List ℕ)
parameters_of ds = behind_declarations [] (declarations_of ds)

abbrev pub callees_named : Globals → ParagraphTree → List CalleeTree
callees_named g (tree.predicate n ds b) = record {
  place = n.place;
  parameters = declarations_resolved g [] (declarations_of ds);
  meaning = formulas (all_resolved g (parameters_of ds) (trees_of b.formulas));
} ∷ []
callees_named g (tree.function n ds mark range body) = record {
  place = n.place;
  parameters = declarations_resolved g [] (declarations_of ds);
  meaning = value (resolved g (parameters_of ds) range) (resolved g (parameters_of ds) body);
} ∷ []
callees_named g paragraph = []

abbrev pub facts_named : Globals → ParagraphTree → List PhraseTrees
facts_named g (tree.fact n b) = all_resolved g [] (trees_of b.formulas) ∷ []
facts_named g paragraph = []

abbrev pub fact_names : ParagraphTree → List (Option (List ℕ))
fact_names (tree.fact n b) = option_map (λ (n : Name). n.text) n ∷ []
fact_names paragraph = []

abbrev pub assertions_named : Globals → ParagraphTree → List PhraseTrees
assertions_named g (tree.assertion n b) = all_resolved g [] (trees_of b.formulas) ∷ []
assertions_named g paragraph = []

-- ---- commands

-- `run` names a predicate, `check` an assertion
abbrev pub target_named : Globals → CommandKind → tree.TargetTree → TargetTree
target_named g kind (tree.at_block label b) = at_block (all_resolved g [] (trees_of b.formulas))
target_named g command_kind.Run (tree.at_name n) = at_predicate (number_in (callee_names g) n)
target_named g command_kind.Check (tree.at_name n) = at_assertion (number_in g.assertions n)

abbrev pub scope_named : Globals → tree.ScopeTree → ScopeTree
scope_named g s = record {
  default = s.default;
  listings = map (λ (e : Entry). record { exactly = e.exactly; number = e.number; place = e.name.place; signature = number_of g.signatures e.name.text }) s.entries;
}

abbrev pub commands_named : Globals → ParagraphTree → List CommandTree
commands_named g (tree.command kind p target scope expected) = record { kind = kind; target = target_named g kind target; scope = option_map (scope_named g) scope } ∷ []
commands_named g paragraph = []

-- ---- models

-- how many things of a kind these paragraphs declare
abbrev pub count_in : {X : Type 0} → (ParagraphTree → List X) → List ParagraphTree → ℕ
count_in kind paragraphs = length (flat_map kind paragraphs)

-- what a paragraph declares, behind these
abbrev pub part_behind : List ParagraphTree → ParagraphTree → Part
part_behind before (tree.signatures is_abstract mark names parent fields) =
    part.Fields (count_in field_names before) (length (field_names (tree.signatures is_abstract mark names parent fields)))
part_behind before (tree.fact n b) = part.Fact (count_in (facts_named (globals_of [])) before)
part_behind before (tree.predicate n ds b) = part.Callee (count_in headers before)
part_behind before (tree.function n ds mark range body) = part.Callee (count_in headers before)
part_behind before (tree.assertion n b) = part.Assertion (count_in assertion_names before)
part_behind before (tree.command kind p target scope expected) = part.Command (count_in (commands_named (globals_of [])) before)

abbrev pub parts_behind : List ParagraphTree → List ParagraphTree → List Part
parts_behind before [] = []
parts_behind before (p ∷ ps) = part_behind before p ∷ parts_behind (before ++ p ∷ []) ps

abbrev pub paragraphs_named : Globals → List ParagraphTree → NamedTree
paragraphs_named g ps = record {
  signatures = flat_map (signatures_named g) ps;
  fields = flat_map (fields_named g) ps;
  callees = flat_map (callees_named g) ps;
  facts = flat_map (facts_named g) ps;
  fact_names = flat_map fact_names ps;
  assertions = flat_map (assertions_named g) ps;
  commands = flat_map (commands_named g) ps;
  parts = parts_behind [] ps;
}

-- the model that a tree says
abbrev pub named_of : ModelTree → NamedTree
named_of m = paragraphs_named (globals_of m.paragraphs) m.paragraphs
