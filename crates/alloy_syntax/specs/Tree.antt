-- The trees of the grammar, with lists where the code keeps vectors.
use Rattle.std.specs.Prelude.{List, [], ◌∷◌, Bool, Option}
use Rattle.alloy_lex.specs.declared.token.Place.{Place}
use Rattle.alloy_syntax.specs.declared.tree.Name.{Name}
use Rattle.alloy_syntax.specs.declared.tree.Number.{Number}
use Rattle.alloy_syntax.specs.declared.tree.MultiplicityWord.{MultiplicityWord}
use Rattle.alloy_syntax.specs.declared.tree.Quantifier.{Quantifier}
use Rattle.alloy_syntax.specs.declared.tree.Constant.{Constant}
use Rattle.alloy_syntax.specs.declared.tree.Prefix.{Prefix}
use Rattle.alloy_syntax.specs.declared.tree.Operator.{Operator}
use Rattle.alloy_syntax.specs.declared.tree.Comparing.{Comparing}
use Rattle.alloy_syntax.specs.declared.tree.Parent.{Parent}
use Rattle.alloy_syntax.specs.declared.tree.Entry.{Entry}
use Rattle.alloy_syntax.specs.declared.tree.CommandKind.{CommandKind}
use Rattle.alloy_syntax.specs.declared.tree.Open.{Open}

-- an expression, a formula or a number
mutual
  pub data Tree : Type 0 where
    named : Name → Tree
    numbered : Number → Tree
    constant : Constant → Place → Tree
    bracketed : Place → Tree → Tree
    block : Place → Trees → Tree
    prefixed : Prefix → Place → Tree → Tree
    chain : Tree → Links → Tree
    path : Tree → Steps → Tree
    compared : Tree → Comparing → Tree → Tree
    implies : Tree → Place → Tree → Tree
    implies_else : Tree → Place → Tree → Tree → Tree
    quantified : Quantifier → Place → Declarations → Tree → Tree
    bound_by_let : Place → Bindings → Tree → Tree

  pub data Trees : Type 0 where
    no_trees : Trees
    more_trees : Tree → Trees → Trees

  pub data Links : Type 0 where
    no_links : Links
    more_links : Operator → Place → Tree → Links → Links

  pub data Steps : Type 0 where
    no_steps : Steps
    join_first : Place → Tree → Steps → Steps
    brackets_first : Place → Trees → Steps → Steps

  pub data Declarations : Type 0 where
    no_declarations : Declarations
    more_declarations : Bool → List Name → Option MultiplicityWord → Tree → Declarations → Declarations

  pub data Bindings : Type 0 where
    no_bindings : Bindings
    more_bindings : Name → Tree → Bindings → Bindings

-- an operator of a chain, and the operand behind it
pub record LinkTree : Type 0 where
  pub operator : Operator
  pub place : Place
  pub operand : Tree

-- a join or brackets behind an expression
pub data StepTree : Type 0 where
  joined : Place → Tree → StepTree
  in_brackets : Place → List Tree → StepTree

-- variables with their domain
pub record DeclarationTree : Type 0 where
  pub disjoint : Bool
  pub names : List Name
  pub mark : Option MultiplicityWord
  pub domain : Tree

-- a name of a `let`
pub record BindingTree : Type 0 where
  pub name : Name
  pub value : Tree

abbrev pub trees_of : List Tree → Trees
trees_of [] = no_trees
trees_of (t ∷ ts) = more_trees t (trees_of ts)

abbrev pub links_of : List LinkTree → Links
links_of [] = no_links
links_of (l ∷ ls) = more_links l.operator l.place l.operand (links_of ls)

abbrev pub step_first : StepTree → Steps → Steps
step_first (joined p t) steps = join_first p t steps
step_first (in_brackets p ts) steps = brackets_first p (trees_of ts) steps

abbrev pub steps_of : List StepTree → Steps
steps_of [] = no_steps
steps_of (s ∷ ss) = step_first s (steps_of ss)

abbrev pub declarations_of : List DeclarationTree → Declarations
declarations_of [] = no_declarations
declarations_of (d ∷ ds) = more_declarations d.disjoint d.names d.mark d.domain (declarations_of ds)

abbrev pub bindings_of : List BindingTree → Bindings
bindings_of [] = no_bindings
bindings_of (g ∷ gs) = more_bindings g.name g.value (bindings_of gs)

-- a field's bound
mutual
  pub data BoundTree : Type 0 where
    bound_named : Name → BoundTree
    bound_bracketed : Place → BoundTree → BoundTree
    bound_union : BoundTree → BoundUnions → BoundTree
    bound_arrows : BoundTree → BoundArrows → BoundTree

  pub data BoundUnions : Type 0 where
    no_unions : BoundUnions
    more_unions : Place → BoundTree → BoundUnions → BoundUnions

  pub data BoundArrows : Type 0 where
    no_arrows : BoundArrows
    more_arrows : Option MultiplicityWord → Place → Option MultiplicityWord → BoundTree → BoundArrows → BoundArrows

-- an arrow of a bound, with the multiplicity words beside it and its right side
pub record BoundArrowTree : Type 0 where
  pub left : Option MultiplicityWord
  pub place : Place
  pub right : Option MultiplicityWord
  pub side : BoundTree

abbrev pub unions_of : List (Place × BoundTree) → BoundUnions
unions_of [] = no_unions
unions_of (u ∷ us) = more_unions u.0 u.1 (unions_of us)

abbrev pub arrows_of : List BoundArrowTree → BoundArrows
arrows_of [] = no_arrows
arrows_of (a ∷ as') = more_arrows a.left a.place a.right a.side (arrows_of as')

-- fields with their bound
pub record FieldTree : Type 0 where
  pub names : List Name
  pub mark : Option MultiplicityWord
  pub bound : BoundTree

-- formulas in braces
pub record BlockTree : Type 0 where
  pub place : Place
  pub formulas : List Tree

-- what a command runs or checks
pub data TargetTree : Type 0 where
  at_name : Name → TargetTree
  at_block : Option Name → BlockTree → TargetTree

-- a command's default scope, and the sizes that it lists
pub record ScopeTree : Type 0 where
  pub default : Option Number
  pub entries : List Entry

-- a paragraph
pub data ParagraphTree : Type 0 where
  signatures : Bool → Option MultiplicityWord → List Name → Option Parent → List FieldTree → ParagraphTree
  fact : Option Name → BlockTree → ParagraphTree
  predicate : Name → List DeclarationTree → BlockTree → ParagraphTree
  function : Name → List DeclarationTree → Option MultiplicityWord → Tree → Tree → ParagraphTree
  assertion : Name → BlockTree → ParagraphTree
  command : CommandKind → Place → TargetTree → Option ScopeTree → Option Number → ParagraphTree

-- a model: the name behind `module`, the orderings, and the paragraphs
pub record ModelTree : Type 0 where
  pub heading : Option Name
  pub opens : List Open
  pub paragraphs : List ParagraphTree
