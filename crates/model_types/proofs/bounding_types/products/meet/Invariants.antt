use Rattle.model_types.specs.Bounding.{has}
use Rattle.model_types.specs.Bounds.Same.{AreSame}
use Rattle.model_types.proofs.Bounds.SetsSoFar.{added, keeping}
use Rattle.model_types.proofs.bounding_types.products.meet.Given as goal

abbrev pub invariant-loop-list : goal.invariant-loop-list
invariant-loop-list l = AreSame l.all (added (keeping (has l.b)) l.lists l.list-index)
