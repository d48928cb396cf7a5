use Rattle.std.proofs.Common.{ap, ◌∙◌, arith}
use Rattle.body_lowering.specs.Nodes.{nodes_of}
use Rattle.body_lowering.proofs.Nodes.{shifted_nodes}
use Rattle.body_lowering.proofs.locals.local_at.Goals as goal

pub returns-clause-taken : goal.returns-clause-taken
returns-clause-taken c = let same = ap nodes_of c.in_ok-shifted.ensures ∙ shifted_nodes _ _ in omega (arith, same, c.in_ok-charge.ensures.ok)
