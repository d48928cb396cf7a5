-- What a name in a body stands for, the tree of a body with every name tied to its declaration, and the faults of its names
-- in the order of the text.
use Rattle.std.specs.Prelude.{ℕ, ◌+◌, ◌==◌, List, [], ◌∷◌, ◌++◌, map, length, drop, slice_index_or, Bool, true, false, ◌&&◌, if◌then◌else◌, Option, Some, None, position, bytes_eq}
use Rattle.std.specs.List.{list_any}
use Rattle.alloy_lex.specs.declared.token.Place.{Place}
use Rattle.alloy_syntax.specs.declared.tree.Name.{Name}
use Rattle.alloy_syntax.specs.declared.tree.MultiplicityWord.{MultiplicityWord}
use Rattle.alloy_syntax.specs.declared.tree.Multiplicity.TheVariants as multiplicity
use Rattle.alloy_syntax.specs.Tree as tree
use Rattle.alloy_syntax.specs.Tree.{Tree, Trees, Links, Steps, Declarations, Bindings, DeclarationTree}
use Rattle.named_model.specs.declared.fault.NameFault.{NameFault}
use Rattle.named_model.specs.declared.fault.NameFault.TheVariants as fault
use Rattle.named_model.specs.declared.phrase.Referent.TheVariants as referent
use Rattle.named_model.specs.declared.standing.Standing.{Standing}
use Rattle.named_model.specs.declared.standing.Standing.TheVariants as standing
use Rattle.named_model.specs.Phrase.{PhraseTree, refers, called, numbered, constant, bracketed, block, prefixed, chain, path, compared, implies, implies_else, quantified, bound_by_let, PhraseTrees, no_phrases, more_phrases, LinkTrees, no_links, more_links, StepTrees, no_steps, join_first, brackets_first, DomainTrees, no_domains, more_domains}

-- ---- what a name stands for

-- a predicate or a function, with the number of its parameters
pub record Header : Type 0 where
  pub name : List ℕ
  pub is_function : Bool
  pub parameters : ℕ

-- the names that stand for something everywhere, each kind in order of declaration
pub record Globals : Type 0 where
  pub signatures : List (List ℕ)
  pub fields : List (List ℕ)
  pub callees : List Header
  pub assertions : List (List ℕ)

-- the number of the first of these names that is this text
abbrev pub number_of : List (List ℕ) → List ℕ → Option ℕ
number_of names text = position (λ name. bytes_eq name text) names

abbrev pub is_among : List (List ℕ) → List ℕ → Bool
is_among names text = list_any (λ name. bytes_eq name text) names

abbrev pub callee_names : Globals → List (List ℕ)
callee_names g = map (λ (h : Header). h.name) g.callees

abbrev pub or_else : Option ℕ → (ℕ → Standing) → Standing → Standing
or_else (Some n) f other = f n
or_else None f other = other

-- one field, or several
abbrev pub field_standing : List (List ℕ) → List ℕ → ℕ → Standing
field_standing fields text n = if is_among (drop (n + 1) fields) text then standing.Shared n else standing.Field n

-- the innermost of the local names hides the others, and these hide the global ones
abbrev pub standing_of : Globals → List (List ℕ) → List ℕ → Standing
standing_of g locals text =
    or_else (number_of locals text) standing.Local
    (or_else (number_of g.signatures text) standing.Signature
    (or_else (number_of g.fields text) (field_standing g.fields text)
    (or_else (number_of (callee_names g) text) standing.Callee standing.Nothing)))

-- ---- local names, the innermost first

abbrev pub onto : List Name → List (List ℕ) → List (List ℕ)
onto [] locals = locals
onto (n ∷ ns) locals = onto ns (n.text ∷ locals)

abbrev pub behind_declarations : List (List ℕ) → Declarations → List (List ℕ)
behind_declarations locals tree.no_declarations = locals
behind_declarations locals (tree.more_declarations disjoint names mark domain rest) = behind_declarations (onto names locals) rest

abbrev pub behind_bindings : List (List ℕ) → Bindings → List (List ℕ)
behind_bindings locals tree.no_bindings = locals
behind_bindings locals (tree.more_bindings name value rest) = behind_bindings (name.text ∷ locals) rest

-- ---- calls

abbrev pub header_at : Globals → ℕ → Header
header_at g n = slice_index_or g.callees n (record { name = []; is_function = false; parameters = 0 })

-- a function without parameters, whose name stands for its value
abbrev pub is_value : Header → Bool
is_value h = h.is_function && (h.parameters == 0)

-- whether brackets with so many parts, directly behind the name, are those of a call: behind a function without parameters
-- only empty ones are
abbrev pub takes : Header → ℕ → Bool
takes h n = if is_value h then n == 0 else true

-- how many arguments a call has, where so many parts stand in the brackets directly behind it, or no brackets
abbrev pub arguments_of : Header → ℕ → ℕ
arguments_of h n = if takes h n then n else 0

-- ---- the tree

-- a name that stands for nothing is a fault, and its part is any
abbrev pub named_as : Place → Standing → PhraseTree
named_as p (standing.Local n) = refers p (referent.Local n)
named_as p (standing.Signature n) = refers p (referent.Signature n)
named_as p (standing.Field n) = refers p (referent.Field n)
named_as p (standing.Shared n) = refers p (referent.Shared n)
named_as p (standing.Callee n) = called p n no_phrases
named_as p standing.Nothing = refers p (referent.Local 0)

abbrev pub phrases_count : PhraseTrees → ℕ
phrases_count no_phrases = 0
phrases_count (more_phrases x xs) = phrases_count xs + 1

-- an expression with the steps behind it, if there are any
abbrev pub path_of : PhraseTree → StepTrees → PhraseTree
path_of head no_steps = head
path_of head steps = path head steps

-- a call takes the brackets directly behind it, if they are its own
abbrev pub call_of : Globals → Place → ℕ → PhraseTrees → StepTrees → PhraseTree
call_of g p n xs (brackets_first q args rest) =
    if takes (header_at g n) (phrases_count args) then path_of (called p n args) rest else path (called p n xs) (brackets_first q args rest)
call_of g p n xs steps = path_of (called p n xs) steps

abbrev pub with_steps : Globals → PhraseTree → StepTrees → PhraseTree
with_steps g (called p n xs) steps = call_of g p n xs steps
with_steps g head steps = path head steps

abbrev mutual
  pub resolved : Globals → List (List ℕ) → Tree → PhraseTree
  resolved g locals (tree.named n) = named_as n.place (standing_of g locals n.text)
  resolved g locals (tree.numbered n) = numbered n
  resolved g locals (tree.constant c p) = constant c p
  resolved g locals (tree.bracketed p t) = bracketed p (resolved g locals t)
  resolved g locals (tree.block p ts) = block p (all_resolved g locals ts)
  resolved g locals (tree.prefixed f p t) = prefixed f p (resolved g locals t)
  resolved g locals (tree.chain t ls) = chain (resolved g locals t) (links_resolved g locals ls)
  resolved g locals (tree.path t steps) = with_steps g (resolved g locals t) (steps_resolved g locals steps)
  resolved g locals (tree.compared a c b) = compared (resolved g locals a) c (resolved g locals b)
  resolved g locals (tree.implies a p b) = implies (resolved g locals a) p (resolved g locals b)
  resolved g locals (tree.implies_else a p b c) = implies_else (resolved g locals a) p (resolved g locals b) (resolved g locals c)
  resolved g locals (tree.quantified q p ds t) = quantified q p (declarations_resolved g locals ds) (resolved g (behind_declarations locals ds) t)
  resolved g locals (tree.bound_by_let p bs t) = bound_by_let p (bindings_resolved g locals bs) (resolved g (behind_bindings locals bs) t)

  pub all_resolved : Globals → List (List ℕ) → Trees → PhraseTrees
  all_resolved g locals tree.no_trees = no_phrases
  all_resolved g locals (tree.more_trees t ts) = more_phrases (resolved g locals t) (all_resolved g locals ts)

  pub links_resolved : Globals → List (List ℕ) → Links → LinkTrees
  links_resolved g locals tree.no_links = no_links
  links_resolved g locals (tree.more_links o p t ls) = more_links o p (resolved g locals t) (links_resolved g locals ls)

  pub steps_resolved : Globals → List (List ℕ) → Steps → StepTrees
  steps_resolved g locals tree.no_steps = no_steps
  steps_resolved g locals (tree.join_first p t steps) = join_first p (resolved g locals t) (steps_resolved g locals steps)
  steps_resolved g locals (tree.brackets_first p ts steps) = brackets_first p (all_resolved g locals ts) (steps_resolved g locals steps)

  -- a later domain sees the earlier variables
  pub declarations_resolved : Globals → List (List ℕ) → Declarations → DomainTrees
  declarations_resolved g locals tree.no_declarations = no_domains
  declarations_resolved g locals (tree.more_declarations disjoint names mark domain rest) =
      more_domains disjoint (length names) mark (resolved g locals domain) (declarations_resolved g (onto names locals) rest)

  -- and a later value the earlier names
  pub bindings_resolved : Globals → List (List ℕ) → Bindings → PhraseTrees
  bindings_resolved g locals tree.no_bindings = no_phrases
  bindings_resolved g locals (tree.more_bindings name value rest) = more_phrases (resolved g locals value) (bindings_resolved g (name.text ∷ locals) rest)

-- ---- faults

abbrev pub trees_count : Trees → ℕ
trees_count tree.no_trees = 0
trees_count (tree.more_trees t ts) = trees_count ts + 1

-- how many parts stand in the brackets directly behind a name; 0 where no brackets stand there
abbrev pub bracketed_in : Steps → ℕ
bracketed_in (tree.brackets_first p ts steps) = trees_count ts
bracketed_in steps = 0

abbrev pub name_faults : Globals → Place → ℕ → Standing → List NameFault
name_faults g p n standing.Nothing = fault.Unknown p ∷ []
name_faults g p n (standing.Callee k) = if arguments_of (header_at g k) n == (header_at g k).parameters then [] else fault.Arguments p ∷ []
name_faults g p n other = []

-- a word before a domain with which a variable need not be a single atom
abbrev pub is_higher : MultiplicityWord → Bool
is_higher mark = elim mark.multiplicity [ multiplicity.One ↦ false | multiplicity.Set ↦ true | multiplicity.Lone ↦ true | multiplicity.Some ↦ true ]

abbrev pub mark_faults : Option MultiplicityWord → List NameFault
mark_faults None = []
mark_faults (Some mark) = if is_higher mark then fault.HigherOrder mark.place ∷ [] else []

abbrev mutual
  -- the faults of a part, directly behind which so many parts stand in brackets
  pub faults_of : Globals → List (List ℕ) → ℕ → Tree → List NameFault
  faults_of g locals n (tree.named name) = name_faults g name.place n (standing_of g locals name.text)
  faults_of g locals n (tree.numbered number) = []
  faults_of g locals n (tree.constant c p) = []
  faults_of g locals n (tree.bracketed p t) = faults_of g locals 0 t
  faults_of g locals n (tree.block p ts) = all_faults g locals ts
  faults_of g locals n (tree.prefixed f p t) = faults_of g locals 0 t
  faults_of g locals n (tree.chain t ls) = faults_of g locals 0 t ++ link_faults g locals ls
  faults_of g locals n (tree.path t steps) = faults_of g locals (bracketed_in steps) t ++ step_faults g locals steps
  faults_of g locals n (tree.compared a c b) = faults_of g locals 0 a ++ faults_of g locals 0 b
  faults_of g locals n (tree.implies a p b) = faults_of g locals 0 a ++ faults_of g locals 0 b
  faults_of g locals n (tree.implies_else a p b c) = faults_of g locals 0 a ++ faults_of g locals 0 b ++ faults_of g locals 0 c
  faults_of g locals n (tree.quantified q p ds t) = declaration_faults g locals ds ++ faults_of g (behind_declarations locals ds) 0 t
  faults_of g locals n (tree.bound_by_let p bs t) = binding_faults g locals bs ++ faults_of g (behind_bindings locals bs) 0 t

  pub all_faults : Globals → List (List ℕ) → Trees → List NameFault
  all_faults g locals tree.no_trees = []
  all_faults g locals (tree.more_trees t ts) = faults_of g locals 0 t ++ all_faults g locals ts

  pub link_faults : Globals → List (List ℕ) → Links → List NameFault
  link_faults g locals tree.no_links = []
  link_faults g locals (tree.more_links o p t ls) = faults_of g locals 0 t ++ link_faults g locals ls

  pub step_faults : Globals → List (List ℕ) → Steps → List NameFault
  step_faults g locals tree.no_steps = []
  step_faults g locals (tree.join_first p t steps) = faults_of g locals 0 t ++ step_faults g locals steps
  step_faults g locals (tree.brackets_first p ts steps) = all_faults g locals ts ++ step_faults g locals steps

  pub declaration_faults : Globals → List (List ℕ) → Declarations → List NameFault
  declaration_faults g locals tree.no_declarations = []
  declaration_faults g locals (tree.more_declarations disjoint names mark domain rest) =
      mark_faults mark ++ faults_of g locals 0 domain ++ declaration_faults g (onto names locals) rest

  pub binding_faults : Globals → List (List ℕ) → Bindings → List NameFault
  binding_faults g locals tree.no_bindings = []
  binding_faults g locals (tree.more_bindings name value rest) = faults_of g locals 0 value ++ binding_faults g (name.text ∷ locals) rest

-- the domains of parameters, before which any word may stand
abbrev pub parameter_faults : Globals → List (List ℕ) → List DeclarationTree → List NameFault
parameter_faults g locals [] = []
parameter_faults g locals (d ∷ ds) = faults_of g locals 0 d.domain ++ parameter_faults g (onto d.names locals) ds
