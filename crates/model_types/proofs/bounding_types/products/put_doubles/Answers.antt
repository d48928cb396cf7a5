use Rattle.std.proofs.Common.{[], ◌∷◌, arith}
use Rattle.model_types.proofs.Bounds.SetsSoFar.{all_numbered}
use Rattle.model_types.proofs.bounding_types.products.put_doubles.Goals as goal

pub returns : goal.returns
returns c = all_numbered (λ k. k ∷ k ∷ []) c.args.tops.now c.loop-top.top-index c.args.all.now c.loop-top.all (omega arith) c.loop-top.invariant
