use Rattle.std.proofs.Common.{map, ◌++◌}
use Rattle.model_types.specs.Bounds.Same.{AreSame}
use Rattle.model_types.proofs.Bounds.SetsSoFar.{added}
use Rattle.model_types.proofs.bounding_types.products.products.Given as goal

abbrev pub invariant-loop-left : goal.invariant-loop-left
invariant-loop-left l = AreSame l.all (added (λ y. map (λ r. y ++ r) l.b) l.lists l.left-index)
