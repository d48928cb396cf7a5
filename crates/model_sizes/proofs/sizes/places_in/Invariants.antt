use Rattle.std.proofs.Common.{◌≡◌, take, min}
use Rattle.model_sizes.specs.Sizes.{places_in}
use Rattle.model_sizes.proofs.sizes.places_in.Given as goal

abbrev pub invariant-loop-size : goal.invariant-loop-size
invariant-loop-size l = l.places ≡ min (places_in (take l.size-index l.sizes)) 65
