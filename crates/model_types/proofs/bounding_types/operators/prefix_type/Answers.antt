use Rattle.model_types.specs.Bounding.{prefix_type}
use Rattle.model_types.proofs.Bounds.SameListsMade.{same_then, same_prefix}
use Rattle.model_types.proofs.bounding_types.operators.prefix_type.Goals as goal

pub returns : goal.returns
returns c = λ x h.
    same_then c.in_ok-made.made (prefix_type c.args.tops.now c.args.prefix c.args.a) (prefix_type c.args.tops.now c.args.prefix x) c.in_ok-made.ensures
    (same_prefix c.args.tops.now c.args.prefix c.args.a x h)
