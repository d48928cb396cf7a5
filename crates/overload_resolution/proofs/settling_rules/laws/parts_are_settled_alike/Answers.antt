use Rattle.overload_resolution.proofs.Settling.SettledAlike.{settled_alike}
use Rattle.overload_resolution.proofs.settling_rules.laws.parts_are_settled_alike.Goals as goal

pub returns : goal.returns
returns c = λ asked d ls ms tops ts x s h k a. settled_alike asked d s ls ms h tops ts k x a
