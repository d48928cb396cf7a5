use Rattle.std.proofs.Common.{[], ◌∷◌, ◌++◌}
use Rattle.model_types.specs.Bounds.Same.{AreSame}
use Rattle.model_types.proofs.Bounds.SetsSoFar.{added}
use Rattle.model_types.proofs.bounding_types.products.put_all.Given as goal

abbrev pub invariant-loop-list : goal.invariant-loop-list
invariant-loop-list l = AreSame l.all (l.fn.all ++ added (λ y. y ∷ []) l.lists l.list-index)
