-- What is true of the bound of a field of a model with types.
use Rattle.std.specs.Prelude.{◌≡◌, ◌≤◌, List, length, All}
use Rattle.named_model.specs.declared.named.Signature.{Signature}
use Rattle.named_model.specs.Phrase.{PhraseTree}
use Rattle.model_types.specs.Models.{bound_arity}
use Rattle.lowering_rules.specs.Typed.{IsBound}
use Rattle.rel_lower.specs.Bounding.Bounds.{bound_type}

-- it has one or two columns, and so long are the lists of its type
pub record HasLists (xs : List Signature) (x : PhraseTree) : Type 0 where
  pub bound : IsBound x
  pub few : bound_arity x ≤ 2
  pub even : All (λ l. length l ≡ bound_arity x) (bound_type xs x)
