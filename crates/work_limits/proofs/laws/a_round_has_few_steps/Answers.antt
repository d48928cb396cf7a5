use Rattle.work_limits.proofs.StepUnits.{one_round}
use Rattle.work_limits.proofs.laws.a_round_has_few_steps.Goals as goal

pub returns : goal.returns
returns c v t pool first floor scenario blocked scenarios round is searched logs = one_round v t pool first floor blocked round scenario scenarios is searched logs
