-- The faults of a model's names, the one that is told first.
use Rattle.std.specs.Prelude.{ℕ, zero, suc, ◌+◌, ◌==◌, List, [], ◌∷◌, ◌++◌, map, length, flat_map, slice_index_or, Bool, true, false, not, ◌&&◌, ◌||◌, if◌then◌else◌, Option, Some, None, option_map, bytes_eq}
use Rattle.std.specs.List.{list_any}
use Rattle.alloy_lex.specs.declared.token.Place.{Place}
use Rattle.alloy_syntax.specs.declared.tree.Name.{Name}
use Rattle.alloy_syntax.specs.declared.tree.Operator.{Operator}
use Rattle.alloy_syntax.specs.declared.tree.Operator.TheVariants as operator
use Rattle.alloy_syntax.specs.declared.tree.Parent.{Parent}
use Rattle.alloy_syntax.specs.declared.tree.CommandKind.TheVariants as command_kind
use Rattle.alloy_syntax.specs.Tree as tree
use Rattle.alloy_syntax.specs.Tree.{Tree, Trees, Links, Steps, Declarations, Bindings, DeclarationTree, trees_of, BoundTree, BoundUnions, BoundArrows, FieldTree, TargetTree, ParagraphTree, ModelTree}
use Rattle.named_model.specs.declared.fault.NameFault.{NameFault}
use Rattle.named_model.specs.declared.fault.NameFault.TheVariants as fault
use Rattle.named_model.specs.Phrase.{PhraseTree, refers, called, numbered, constant, bracketed, block, prefixed, chain, path, compared, implies, implies_else, quantified, bound_by_let, PhraseTrees, no_phrases, more_phrases, LinkTrees, no_links, more_links, StepTrees, no_steps, join_first, brackets_first, DomainTrees, no_domains, more_domains}
use Rattle.named_model.specs.Model.{MeaningTree, formulas, value, CalleeTree}
use Rattle.named_model.specs.Names.{Globals, is_among, parameter_faults, all_faults, faults_of, is_higher}
use Rattle.named_model.specs.Declarations.{globals_of, parameter_names, parameters_of, callees_named}

-- ---- parents

-- a signature, with the name of its parent if it has one
pub record Child : Type 0 where
  pub name : Name
  pub parent : Option (List ℕ)

abbrev pub children : ParagraphTree → List Child
children (tree.signatures is_abstract mark names parent fields) =
    map (λ n. record { name = n; parent = option_map (λ (p : Parent). p.name.text) parent }) names
children paragraph = []

abbrev pub parent_of : List Child → List ℕ → Option (List ℕ)
parent_of [] text = None
parent_of (c ∷ cs) text = if bytes_eq c.name.text text then c.parent else parent_of cs text

-- the signatures above one, the nearest first, as far as so many steps lead
abbrev pub ancestors : List Child → ℕ → List ℕ → List (List ℕ)
ancestors cs zero text = []
ancestors cs (suc n) text = elim (parent_of cs text) [ None ↦ [] | Some p ↦ p ∷ ancestors cs n p ]

-- the top-level signature over one: itself, where it has no parent; none, where parents go round in a circle
abbrev pub top_within : List Child → ℕ → List ℕ → Option (List ℕ)
top_within cs zero text = None
top_within cs (suc n) text = elim (parent_of cs text) [ None ↦ Some text | Some p ↦ top_within cs n p ]

abbrev pub top_of : List Child → List ℕ → Option (List ℕ)
top_of cs = top_within cs (suc (length cs))

-- ---- 1: names that stand for the second time

-- where a name is declared: among the global names, among them as a field of this top-level signature, among the assertions,
-- or among the parameters of the paragraph of a number
pub data Space : Type 0 where
  global : Space
  field_under : Option (List ℕ) → Space
  assertions : Space
  parameters : ℕ → Space

pub record Stated : Type 0 where
  pub space : Space
  pub name : Name

abbrev pub stated : Space → List Name → List Stated
stated space = map (λ n. record { space = space; name = n })

abbrev pub fields_stated : List Child → List Name → FieldTree → List Stated
fields_stated cs owners f = flat_map (λ (n : Name). map (λ (owner : Name). record { space = field_under (top_of cs owner.text); name = n }) owners) f.names

-- the names that the paragraph of a number declares
abbrev pub stated_in : List Child → ℕ → ParagraphTree → List Stated
stated_in cs k (tree.signatures is_abstract mark names parent fields) = stated global names ++ flat_map (fields_stated cs names) fields
stated_in cs k (tree.fact n b) = []
stated_in cs k (tree.predicate n ds b) = stated global (n ∷ []) ++ stated (parameters k) (parameter_names ds)
stated_in cs k (tree.function n ds mark range body) = stated global (n ∷ []) ++ stated (parameters k) (parameter_names ds)
stated_in cs k (tree.assertion n b) = stated assertions (n ∷ [])
stated_in cs k (tree.command kind p target scope expected) = []

abbrev pub stated_from : List Child → ℕ → List ParagraphTree → List Stated
stated_from cs k [] = []
stated_from cs k (p ∷ ps) = stated_in cs k p ++ stated_from cs (k + 1) ps

abbrev pub differ : Option (List ℕ) → Option (List ℕ) → Bool
differ (Some a) (Some b) = not (bytes_eq a b)
differ a b = false

-- whether one name may not stand in both places: it may as a field of two top-level signatures
abbrev pub exclude : Space → Space → Bool
exclude (field_under a) (field_under b) = not (differ a b)
exclude global global = true
exclude global (field_under b) = true
exclude (field_under a) global = true
exclude assertions assertions = true
exclude (parameters k) (parameters l) = k == l
exclude a b = false

abbrev pub repeats_one : Stated → Stated → Bool
repeats_one new old = exclude old.space new.space && bytes_eq old.name.text new.name.text

abbrev pub repeats : List Stated → List Stated → List NameFault
repeats before [] = []
repeats before (x ∷ xs) = (if list_any (repeats_one x) before then fault.Twice x.name.place ∷ [] else []) ++ repeats (before ++ x ∷ []) xs

-- ---- 2: parents, and names of bounds, that are no signatures

abbrev pub unless_signature : Globals → Name → List NameFault
unless_signature g n = if is_among g.signatures n.text then [] else fault.Unknown n.place ∷ []

abbrev mutual
  pub bound_faults : Globals → BoundTree → List NameFault
  bound_faults g (tree.bound_named n) = unless_signature g n
  bound_faults g (tree.bound_bracketed p b) = bound_faults g b
  bound_faults g (tree.bound_union b us) = bound_faults g b ++ union_faults g us
  bound_faults g (tree.bound_arrows b arrows) = bound_faults g b ++ arrow_faults g arrows

  pub union_faults : Globals → BoundUnions → List NameFault
  union_faults g tree.no_unions = []
  union_faults g (tree.more_unions p b us) = bound_faults g b ++ union_faults g us

  pub arrow_faults : Globals → BoundArrows → List NameFault
  arrow_faults g tree.no_arrows = []
  arrow_faults g (tree.more_arrows l p r b arrows) = bound_faults g b ++ arrow_faults g arrows

abbrev pub parent_faults : Globals → Option Parent → List NameFault
parent_faults g None = []
parent_faults g (Some parent) = unless_signature g parent.name

abbrev pub signature_faults : Globals → ParagraphTree → List NameFault
signature_faults g (tree.signatures is_abstract mark names parent fields) = parent_faults g parent ++ flat_map (λ (f : FieldTree). bound_faults g f.bound) fields
signature_faults g paragraph = []

-- ---- 3: signatures that are their own parents

abbrev pub cycle_faults : List Child → Child → List NameFault
cycle_faults cs c = if is_among (ancestors cs (length cs) c.name.text) c.name.text then fault.Cycle c.name.place ∷ [] else []

-- ---- 4: bodies

abbrev pub target_faults : Globals → TargetTree → List NameFault
target_faults g (tree.at_name n) = []
target_faults g (tree.at_block label b) = all_faults g [] (trees_of b.formulas)

abbrev pub body_faults : Globals → ParagraphTree → List NameFault
body_faults g (tree.signatures is_abstract mark names parent fields) = []
body_faults g (tree.fact n b) = all_faults g [] (trees_of b.formulas)
body_faults g (tree.predicate n ds b) = parameter_faults g [] ds ++ all_faults g (parameters_of ds) (trees_of b.formulas)
body_faults g (tree.function n ds mark range body) = parameter_faults g [] ds ++ faults_of g (parameters_of ds) 0 range ++ faults_of g (parameters_of ds) 0 body
body_faults g (tree.assertion n b) = all_faults g [] (trees_of b.formulas)
body_faults g (tree.command kind p target scope expected) = target_faults g target

-- ---- 5: predicates and functions that call themselves

abbrev mutual
  pub calls_in : PhraseTree → List ℕ
  calls_in (refers p r) = []
  calls_in (called p n xs) = n ∷ calls_in_all xs
  calls_in (numbered n) = []
  calls_in (constant c p) = []
  calls_in (bracketed p x) = calls_in x
  calls_in (block p xs) = calls_in_all xs
  calls_in (prefixed f p x) = calls_in x
  calls_in (chain x ls) = calls_in x ++ calls_in_links ls
  calls_in (path x steps) = calls_in x ++ calls_in_steps steps
  calls_in (compared a c b) = calls_in a ++ calls_in b
  calls_in (implies a p b) = calls_in a ++ calls_in b
  calls_in (implies_else a p b c) = calls_in a ++ calls_in b ++ calls_in c
  calls_in (quantified q p ds x) = calls_in_domains ds ++ calls_in x
  calls_in (bound_by_let p xs x) = calls_in_all xs ++ calls_in x

  pub calls_in_all : PhraseTrees → List ℕ
  calls_in_all no_phrases = []
  calls_in_all (more_phrases x xs) = calls_in x ++ calls_in_all xs

  pub calls_in_links : LinkTrees → List ℕ
  calls_in_links no_links = []
  calls_in_links (more_links o p x ls) = calls_in x ++ calls_in_links ls

  pub calls_in_steps : StepTrees → List ℕ
  calls_in_steps no_steps = []
  calls_in_steps (join_first p x steps) = calls_in x ++ calls_in_steps steps
  calls_in_steps (brackets_first p xs steps) = calls_in_all xs ++ calls_in_steps steps

  pub calls_in_domains : DomainTrees → List ℕ
  calls_in_domains no_domains = []
  calls_in_domains (more_domains disjoint n mark x ds) = calls_in x ++ calls_in_domains ds

abbrev pub calls_in_meaning : MeaningTree → List ℕ
calls_in_meaning (formulas xs) = calls_in_all xs
calls_in_meaning (value range body) = calls_in range ++ calls_in body

-- the predicates and functions that each one names, wherever in its paragraph
abbrev pub callees_of : CalleeTree → List ℕ
callees_of c = calls_in_domains c.parameters ++ calls_in_meaning c.meaning

-- from one to another by calls, at most so many and one
abbrev pub calls_within : List (List ℕ) → ℕ → ℕ → ℕ → Bool
calls_within callees zero k l = list_any (λ r. r == l) (slice_index_or callees k [])
calls_within callees (suc n) k l = list_any (λ r. (r == l) || calls_within callees n r l) (slice_index_or callees k [])

abbrev pub recursive_from : List (List ℕ) → ℕ → List Place → List NameFault
recursive_from callees k [] = []
recursive_from callees k (p ∷ ps) = (if calls_within callees (length callees) k k then fault.Recursive p ∷ [] else []) ++ recursive_from callees (k + 1) ps

abbrev pub recursive_faults : List CalleeTree → List NameFault
recursive_faults cs = recursive_from (map callees_of cs) 0 (map (λ (c : CalleeTree). c.place) cs)

-- ---- 6: commands

abbrev pub is_product : Operator → Bool
is_product operator.Product = true
is_product other = false

-- an arrow anywhere in a domain
abbrev mutual
  pub has_arrow : Tree → Bool
  has_arrow (tree.named n) = false
  has_arrow (tree.numbered n) = false
  has_arrow (tree.constant c p) = false
  has_arrow (tree.bracketed p t) = has_arrow t
  has_arrow (tree.block p ts) = some_has_arrow ts
  has_arrow (tree.prefixed f p t) = has_arrow t
  has_arrow (tree.chain t ls) = has_arrow t || link_has_arrow ls
  has_arrow (tree.path t steps) = has_arrow t || step_has_arrow steps
  has_arrow (tree.compared a c b) = has_arrow a || has_arrow b
  has_arrow (tree.implies a p b) = has_arrow a || has_arrow b
  has_arrow (tree.implies_else a p b c) = has_arrow a || has_arrow b || has_arrow c
  has_arrow (tree.quantified q p ds t) = domain_has_arrow ds || has_arrow t
  has_arrow (tree.bound_by_let p bs t) = binding_has_arrow bs || has_arrow t

  pub some_has_arrow : Trees → Bool
  some_has_arrow tree.no_trees = false
  some_has_arrow (tree.more_trees t ts) = has_arrow t || some_has_arrow ts

  pub link_has_arrow : Links → Bool
  link_has_arrow tree.no_links = false
  link_has_arrow (tree.more_links o p t ls) = is_product o || has_arrow t || link_has_arrow ls

  pub step_has_arrow : Steps → Bool
  step_has_arrow tree.no_steps = false
  step_has_arrow (tree.join_first p t steps) = has_arrow t || step_has_arrow steps
  step_has_arrow (tree.brackets_first p ts steps) = some_has_arrow ts || step_has_arrow steps

  pub domain_has_arrow : Declarations → Bool
  domain_has_arrow tree.no_declarations = false
  domain_has_arrow (tree.more_declarations disjoint names mark domain rest) = has_arrow domain || domain_has_arrow rest

  pub binding_has_arrow : Bindings → Bool
  binding_has_arrow tree.no_bindings = false
  binding_has_arrow (tree.more_bindings name x rest) = has_arrow x || binding_has_arrow rest

-- parameters that need not be single atoms
abbrev pub is_higher_domain : DeclarationTree → Bool
is_higher_domain d = (elim d.mark [ None ↦ false | Some mark ↦ is_higher mark ]) || has_arrow d.domain

-- a predicate of this name, and whether it has such parameters
abbrev pub predicates_at : List ℕ → ParagraphTree → List Bool
predicates_at text (tree.predicate n ds b) = if bytes_eq n.text text then list_any is_higher_domain ds ∷ [] else []
predicates_at text paragraph = []

abbrev pub run_faults : Place → List Bool → List NameFault
run_faults p [] = fault.Unknown p ∷ []
run_faults p (higher ∷ more) = if higher then fault.HigherOrder p ∷ [] else []

abbrev pub command_faults : List ParagraphTree → Globals → ParagraphTree → List NameFault
command_faults ps g (tree.command command_kind.Run p (tree.at_name n) scope expected) = run_faults n.place (flat_map (predicates_at n.text) ps)
command_faults ps g (tree.command command_kind.Check p (tree.at_name n) scope expected) = if is_among g.assertions n.text then [] else fault.Unknown n.place ∷ []
command_faults ps g paragraph = []

-- ---- all of them, in their order

abbrev pub faults_in : ModelTree → List NameFault
faults_in m =
    let g = globals_of m.paragraphs in
    let cs = flat_map children m.paragraphs in
    repeats [] (stated_from cs 0 m.paragraphs)
    ++ flat_map (signature_faults g) m.paragraphs
    ++ flat_map (cycle_faults cs) cs
    ++ flat_map (body_faults g) m.paragraphs
    ++ recursive_faults (flat_map (callees_named g) m.paragraphs)
    ++ flat_map (command_faults m.paragraphs g) m.paragraphs
