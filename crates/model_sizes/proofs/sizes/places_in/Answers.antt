use Rattle.std.proofs.Common.{arith}
use Rattle.model_sizes.proofs.Tops.{places_more}
use Rattle.model_sizes.proofs.sizes.places_in.Goals as goal

pub loop-size-preserved : goal.loop-size-preserved
loop-size-preserved c = places_more c.args.sizes.now c.loop-size.size-index _ c.loop-size.places c.with_places-places.result (omega arith) c.loop-size.invariant c.with_places-places.ensures
