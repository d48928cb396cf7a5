use Rattle.std.proofs.Common.{[], ◌∷◌, ◌++◌}
use Rattle.model_types.specs.Bounds.Same.{AreSame}
use Rattle.model_types.proofs.Bounds.SetsSoFar.{added}
use Rattle.model_types.proofs.bounding_types.products.put_products.Given as goal

abbrev pub invariant-loop-right : goal.invariant-loop-right
invariant-loop-right l = AreSame l.all (l.fn.all ++ added (λ r. (l.left ++ r) ∷ []) l.lists l.right-index)
