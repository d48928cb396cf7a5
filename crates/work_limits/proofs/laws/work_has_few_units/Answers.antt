use Rattle.work_limits.proofs.StepUnits.{step_units}
use Rattle.work_limits.proofs.laws.work_has_few_units.Goals as goal

pub returns : goal.returns
returns c v t pool first s sound step parts copies is logs =
    let rounds = c.rounds_find_new_copies.ensures in
    step_units v t pool (λ floor shown blocked rs cs are. ((rounds.few t floor shown blocked rs cs are).1, (rounds.new t floor shown blocked rs cs are).1)) first s sound step parts copies is logs
