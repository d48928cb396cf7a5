use Rattle.overload_resolution.proofs.Settling.SettledAlike.{domains_alike}
use Rattle.overload_resolution.proofs.settling_rules.laws.domains_are_settled_alike.Goals as goal

pub returns : goal.returns
returns c = λ asked single d ls ms ds s h a. domains_alike asked d s single ls ms h ds a
