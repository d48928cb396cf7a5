-- Bodies whose shared names are settled.
use Rattle.std.proofs.Common.{◌≡◌, ℕ, List, [], map, reverse, Some, slice_get, Ok}
use Rattle.named_model.specs.Phrase.{PhraseTree, PhraseTrees}
use Rattle.named_model.specs.Model.{MeaningTree, formulas, value, CalleeTree, NamedTree}
use Rattle.model_types.specs.Sorts as sorts
use Rattle.model_types.specs.Sorts.{Kind}
use Rattle.model_types.specs.Typing as typing
use Rattle.model_types.specs.Typing.{Declared, Header, Settled, settled, formulas_settled}

-- a body whose shared names are settled, under these local names, and what a call of it is
abbrev pub IsBodyOf : Declared → List typing.Local → MeaningTree → Kind → Type 0
IsBodyOf d locals (formulas ys) k = (xs : PhraseTrees) × (formulas_settled d locals xs ≡ Ok ys) × (k ≡ sorts.formula)
IsBodyOf d locals (value range y) k = (x : PhraseTree) × (z : Settled) × (settled d locals [] x ≡ Ok z) × (z.tree ≡ y) × (z.kind ≡ k)

-- the body of each predicate and function in the model is settled, for parameters of the arities that are declared
pub record HasBody (d : Declared) (m : NamedTree) (c : ℕ) (h : Header) : Type 0 where
  pub callee : CalleeTree
  pub there : slice_get m.callees c ≡ Some callee
  pub locals : List typing.Local
  pub parameters : h.parameters ≡ map (λ (l : typing.Local). Some l.arity) (reverse locals)
  pub body : IsBodyOf d locals callee.meaning h.kind

abbrev pub HasBodies : Declared → NamedTree → Type 0
HasBodies d m = (c : ℕ) (h : Header) → d.callee c ≡ Some h → HasBody d m c h
