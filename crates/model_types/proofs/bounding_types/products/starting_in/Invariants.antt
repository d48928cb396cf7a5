use Rattle.model_types.specs.Bounding.{has, start_of}
use Rattle.model_types.specs.Bounds.Same.{AreSame}
use Rattle.model_types.proofs.Bounds.SetsSoFar.{added, keeping}
use Rattle.model_types.proofs.bounding_types.products.starting_in.Given as goal

abbrev pub invariant-loop-list : goal.invariant-loop-list
invariant-loop-list l = AreSame l.all (added (keeping (λ y. has l.starts (start_of y))) l.lists l.list-index)
