use Rattle.model_types.specs.Bounding.{operator_type}
use Rattle.model_types.proofs.Bounds.SameListsMade.{same_then, same_operator}
use Rattle.model_types.proofs.bounding_types.operators.operator_type.Goals as goal

pub returns : goal.returns
returns c = λ x y h k.
    same_then c.in_ok-made.made (operator_type c.args.operator c.args.a c.args.b.now) (operator_type c.args.operator x y) c.in_ok-made.ensures
    (same_operator c.args.operator c.args.a c.args.b.now x y h k)
