use Rattle.model_types.specs.Bounding.{joins}
use Rattle.model_types.proofs.Bounds.SameListsMade.{same_then, same_joins}
use Rattle.model_types.proofs.bounding_types.operators.join_type.Goals as goal

pub returns : goal.returns
returns c = λ x y h k.
    same_then c.in_ok-made.made (joins c.args.a.now c.args.b.now) (joins x y) c.in_ok-made.ensures (same_joins c.args.a.now c.args.b.now x y h k)
