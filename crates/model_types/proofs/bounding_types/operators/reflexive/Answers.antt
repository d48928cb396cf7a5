use Rattle.std.proofs.Common.{refl, ◌++◌}
use Rattle.model_types.specs.Bounding.{through, doubles}
use Rattle.model_types.proofs.Bounds.SameListsMade.{same_then, same_append}
use Rattle.model_types.proofs.bounding_types.operators.reflexive.Goals as goal

pub returns : goal.returns
returns c =
    let tops = c.args.tops.now in
    same_then c.in_ok-all.all (c.in_ok-pairs.pairs ++ doubles tops) (through tops c.args.a ++ doubles tops) c.in_ok-all.ensures
    (same_append c.in_ok-pairs.pairs (doubles tops) (through tops c.args.a) (doubles tops) c.in_ok-pairs.ensures (λ t. refl))
