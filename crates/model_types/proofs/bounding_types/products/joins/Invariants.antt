use Rattle.std.proofs.Common.{flat_map}
use Rattle.model_types.specs.Bounding.{joined}
use Rattle.model_types.specs.Bounds.Same.{AreSame}
use Rattle.model_types.proofs.Bounds.SetsSoFar.{added}
use Rattle.model_types.proofs.bounding_types.products.joins.Given as goal

abbrev pub invariant-loop-left : goal.invariant-loop-left
invariant-loop-left l = AreSame l.all (added (λ y. flat_map (joined y) l.b) l.lists l.left-index)
