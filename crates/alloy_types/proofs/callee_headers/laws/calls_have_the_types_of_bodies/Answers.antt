use Rattle.alloy_types.proofs.Headers.Bodies.{calls_by_bodies}
use Rattle.alloy_types.proofs.callee_headers.laws.calls_have_the_types_of_bodies.Goals as goal

pub returns : goal.returns
returns c = calls_by_bodies
