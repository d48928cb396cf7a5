-- What is found in a text.
use Rattle.std.specs.Prelude.{◌≡◌, ◌≤◌, ℕ, List, [], length, Ok}
use Rattle.alloy_lex.specs.declared.token.Token.{Token}
use Rattle.alloy_lex.specs.Tokens.{tokens_of, IsFaultOf}
use Rattle.alloy_syntax.specs.Tree.{ModelTree}
use Rattle.alloy_syntax.specs.ParserTokens.{seen_all}
use Rattle.alloy_syntax.specs.Paragraphs.{model_of}
use Rattle.alloy_parse.specs.Faults.{Refuses}
use Rattle.named_model.specs.Model.{NamedTree}
use Rattle.named_model.specs.Declarations.{named_of}
use Rattle.named_model.specs.Faults.{faults_in}
use Rattle.name_tables.specs.Told as name
use Rattle.model_types.specs.Models.{settled_in, types_checked}
use Rattle.overload_resolution.specs.Settling.Told as type
use Rattle.rel_formula.specs.Bounds.{Bounded, cells_of}
use Rattle.rel_terms.specs.Terms.{HasTerms}
use Rattle.lowering_rules.specs.Formula.{all_facts}
use Rattle.lowering_rules.specs.Problem.{IsRefusal}
use Rattle.rel_lower.specs.Lowered.{IsLowered}
use Rattle.bench_models.specs.declared.found.Counts.{Counts}
use Rattle.bench_models.specs.declared.found.Found.{Found}
use Rattle.bench_models.specs.declared.found.Found.TheVariants as shown
use Rattle.bench_texts.specs.declared.stages.Stage.{Stage}
use Rattle.bench_texts.specs.declared.stages.Stage.TheVariants as stage

-- a model declares so many of each
pub record AreCounted (m : NamedTree) (c : Counts) : Type 0 where
  pub signatures : length m.signatures ≡ c.signatures
  pub fields : length m.fields ≡ c.fields
  pub callees : length m.callees ≡ c.callees
  pub facts : length m.facts ≡ c.facts
  pub commands : length m.commands ≡ c.commands

-- the problem of the first command, with all facts
abbrev pub IsFirst : NamedTree → Bounded → Type 0
IsFirst m p = IsLowered m 1 (all_facts m) p

-- this is found of a model whose names and types have no fault
abbrev pub IsFoundOf : NamedTree → Found → Type 0
IsFoundOf m (shown.Types c) = AreCounted m c
IsFoundOf m (shown.Problem relations cells) = (p : Bounded) × IsFirst m p × (length p.relations ≡ relations) × (length (cells_of p) ≡ cells)
IsFoundOf m (shown.Terms n) = (p : Bounded) × IsFirst m p × HasTerms p n
IsFoundOf m (shown.NoProblem f) = IsRefusal m 1 (all_facts m) f
IsFoundOf m x = ⊥

-- a model has no fault of its types, and this is found of it where each shared name is one field
pub record IsFoundTyped (m : NamedTree) (x : Found) : Type 0 where
  pub types : types_checked m ≡ Ok tt
  pub found : IsFoundOf (settled_in m) x

-- this is found of a model whose names have no fault
abbrev pub IsFoundNamed : NamedTree → Found → Type 0
IsFoundNamed m (shown.Names c) = AreCounted m c
IsFoundNamed m (shown.BadType f) = type.IsTold f (types_checked m)
IsFoundNamed m x = IsFoundTyped m x

-- a tree has no fault of its names, and this is found of the model that it says
pub record IsFoundSaid (tree : ModelTree) (x : Found) : Type 0 where
  pub names : faults_in tree ≡ []
  pub found : IsFoundNamed (named_of tree) x

-- this is found of a tree
abbrev pub IsFoundIn : ModelTree → Found → Type 0
IsFoundIn tree (shown.Tree n) = length tree.paragraphs ≡ n
IsFoundIn tree (shown.BadName f) = name.IsTold f (faults_in tree)
IsFoundIn tree x = IsFoundSaid tree x

-- a text is read as a tree, and this is found of it
pub record IsFoundRead (text : List ℕ) (x : Found) : Type 0 where
  pub tokens : List Token
  pub tree : ModelTree
  pub lexed : tokens_of text ≡ Ok tokens
  pub parsed : model_of (seen_all tokens) ≡ Ok tree
  pub found : IsFoundIn tree x

-- this is found of a text
abbrev pub IsFound : List ℕ → Found → Type 0
IsFound text shown.Text = Unit {0}
IsFound text (shown.NoTokens f) = IsFaultOf f (tokens_of text)
IsFound text (shown.NoTree f) = (ts : List Token) × (tokens_of text ≡ Ok ts) × Refuses ts f (model_of (seen_all ts))
IsFound text x = IsFoundRead text x

-- a model is what a tree without a fault of its names says
pub record IsSaid (m : NamedTree) : Type 0 where
  pub tree : ModelTree
  pub names : faults_in tree ≡ []
  pub is : m ≡ named_of tree

-- how many steps a text is brought
abbrev pub steps : Stage → ℕ
steps stage.Text = 0
steps stage.Tree = 1
steps stage.Names = 2
steps stage.Types = 3
steps stage.Problem = 4
steps stage.Terms = 5

-- this is found of a text that is brought so many steps: what the last of them makes, or a fault that one of them tells
abbrev pub IsAsked : ℕ → Found → Type 0
IsAsked n shown.Text = n ≡ 0
IsAsked n (shown.Tree k) = n ≡ 1
IsAsked n (shown.Names c) = n ≡ 2
IsAsked n (shown.Types c) = n ≡ 3
IsAsked n (shown.Problem r c) = n ≡ 4
IsAsked n (shown.Terms k) = n ≡ 5
IsAsked n (shown.NoTokens f) = 1 ≤ n
IsAsked n (shown.NoTree f) = 1 ≤ n
IsAsked n (shown.BadName f) = 2 ≤ n
IsAsked n (shown.BadType f) = 3 ≤ n
IsAsked n (shown.NoProblem f) = 4 ≤ n
