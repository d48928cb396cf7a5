-- A model with every name tied to its declaration, as plain data. What is declared is numbered from 0 in order of
-- declaration, each kind by itself; predicates and functions are one kind.
use Rattle.std.specs.Prelude.{ℕ, List, Option}
use Rattle.alloy_lex.specs.declared.token.Place.{Place}
use Rattle.alloy_syntax.specs.declared.tree.Number.{Number}
use Rattle.alloy_syntax.specs.declared.tree.MultiplicityWord.{MultiplicityWord}
use Rattle.alloy_syntax.specs.declared.tree.CommandKind.{CommandKind}
use Rattle.named_model.specs.declared.named.Signature.{Signature}
use Rattle.named_model.specs.declared.named.Listing.{Listing}
use Rattle.named_model.specs.declared.named.Part.{Part}
use Rattle.named_model.specs.Phrase.{PhraseTree, PhraseTrees, DomainTrees}

-- a field: the number of its signature, the word before its bound, those beside its first arrow, and the bound
pub record FieldTree : Type 0 where
  pub name : List ℕ
  pub place : Place
  pub owner : ℕ
  pub mark : Option MultiplicityWord
  pub left : Option MultiplicityWord
  pub right : Option MultiplicityWord
  pub bound : PhraseTree

-- what a predicate or a function stands for: formulas, or a range and a body
pub data MeaningTree : Type 0 where
  formulas : PhraseTrees → MeaningTree
  value : PhraseTree → PhraseTree → MeaningTree

-- a predicate or a function
pub record CalleeTree : Type 0 where
  pub place : Place
  pub parameters : DomainTrees
  pub meaning : MeaningTree

-- what a command runs or checks
pub data TargetTree : Type 0 where
  at_predicate : ℕ → TargetTree
  at_assertion : ℕ → TargetTree
  at_block : PhraseTrees → TargetTree

-- a command's default scope, and the sizes that it lists
pub record ScopeTree : Type 0 where
  pub default : Option Number
  pub listings : List Listing

pub record CommandTree : Type 0 where
  pub kind : CommandKind
  pub target : TargetTree
  pub scope : Option ScopeTree

-- a model, with its paragraphs in the order of the text
pub record NamedTree : Type 0 where
  pub signatures : List Signature
  pub fields : List FieldTree
  pub callees : List CalleeTree
  pub facts : List PhraseTrees
  pub fact_names : List (Option (List ℕ))
  pub assertions : List PhraseTrees
  pub commands : List CommandTree
  pub parts : List Part
