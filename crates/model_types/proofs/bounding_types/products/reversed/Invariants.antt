use Rattle.std.proofs.Common.{[], ◌∷◌, reverse}
use Rattle.model_types.specs.Bounds.Same.{AreSame}
use Rattle.model_types.proofs.Bounds.SetsSoFar.{added}
use Rattle.model_types.proofs.bounding_types.products.reversed.Given as goal

abbrev pub invariant-loop-list : goal.invariant-loop-list
invariant-loop-list l = AreSame l.all (added (λ y. reverse y ∷ []) l.lists l.list-index)
