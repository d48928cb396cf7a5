-- What the formula of a problem rests on: references that are there, bounds as the grammar has them, and parts whose types have
-- no fault.
use Rattle.std.specs.Prelude.{◌≡◌, ◌⊎◌, ◌<◌, ℕ, [], length, Some, None, Result, Ok, All}
use Rattle.alloy_syntax.specs.declared.tree.Manner.{Manner}
use Rattle.alloy_syntax.specs.declared.tree.Operator.TheVariants as operator
use Rattle.named_model.specs.declared.phrase.Referent.TheVariants as referent
use Rattle.named_model.specs.Phrase.{PhraseTree, refers, bracketed, chain, PhraseTrees, LinkTrees, no_links, more_links}
use Rattle.named_model.specs.Model.{FieldTree, CalleeTree, CommandTree, NamedTree}
use Rattle.named_model.specs.Signatures.{signature_at}
use Rattle.model_types.specs.declared.fault.TypeFault.{TypeFault}
use Rattle.model_types.specs.Typing.{formulas_settled}
use Rattle.model_types.specs.Models.{declared_in, field_checked, callee_settled, command_settled}

-- ---- references and bounds

abbrev mutual
  -- a bound: a signature, a union of bounds, or arrows between bounds
  pub IsBound : PhraseTree → Type 0
  IsBound (refers p (referent.Signature s)) = Unit {0}
  IsBound (bracketed p x) = IsBound x
  IsBound (chain x ls) = IsBound x × (AreUnions ls ⊎ AreArrows ls)
  IsBound other = ⊥

  pub AreUnions : LinkTrees → Type 0
  AreUnions no_links = Unit {0}
  AreUnions (more_links operator.Union p x ls) = IsBound x × AreUnions ls
  AreUnions other = ⊥

  pub AreArrows : LinkTrees → Type 0
  AreArrows no_links = Unit {0}
  AreArrows (more_links operator.Product p x ls) = IsBound x × AreArrows ls
  AreArrows other = ⊥

-- arrows, in brackets or not
abbrev pub HasArrow : PhraseTree → Type 0
HasArrow (bracketed p x) = HasArrow x
HasArrow (chain x (more_links operator.Product p y ls)) = Unit {0}
HasArrow other = ⊥

-- the signature of a field is there, and words stand beside arrows alone
pub record IsField (signatures : ℕ) (f : FieldTree) : Type 0 where
  pub owner : f.owner < signatures
  pub bound : IsBound f.bound
  pub words : ((f.left ≡ None) × (f.right ≡ None)) ⊎ HasArrow f.bound

-- the parents of signatures are there, and each field is as it has to be
pub record HasReferences (m : NamedTree) : Type 0 where
  pub parents : (s : ℕ) (p : Manner × ℕ) → (signature_at m.signatures s).parent ≡ Some p → p.1 < length m.signatures
  pub fields : All (IsField (length m.signatures)) m.fields

-- ---- types

-- no fault is told
abbrev pub HasNoFault : {A : Type 0} → Result A TypeFault → Type 0
HasNoFault {A} r = (a : A) × (r ≡ Ok a)

-- no part of the model has a fault
pub record HasTypes (m : NamedTree) : Type 0 where
  pub fields : All (λ (f : FieldTree). HasNoFault (field_checked (declared_in m) f)) m.fields
  pub facts : All (λ (xs : PhraseTrees). HasNoFault (formulas_settled (declared_in m) [] xs)) m.facts
  pub assertions : All (λ (xs : PhraseTrees). HasNoFault (formulas_settled (declared_in m) [] xs)) m.assertions
  pub callees : All (λ (c : CalleeTree). HasNoFault (callee_settled (declared_in m) c)) m.callees
  pub commands : All (λ (c : CommandTree). HasNoFault (command_settled m (declared_in m) c)) m.commands
