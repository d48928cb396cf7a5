use Rattle.lowering_rules.proofs.Unfolded.{call_unfolds}
use Rattle.lowering_rules.proofs.laws.calls_become_bodies.Goals as goal

pub returns : goal.returns
returns c = call_unfolds
