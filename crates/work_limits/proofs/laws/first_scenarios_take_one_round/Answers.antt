use Rattle.work_limits.proofs.StepUnits.{first_scenario_units}
use Rattle.work_limits.proofs.laws.first_scenarios_take_one_round.Goals as goal

pub returns : goal.returns
returns c v t pool first s sound none parts copies is logs =
    let rounds = c.rounds_find_new_copies.ensures in
    first_scenario_units v t pool (λ floor shown blocked rs cs are. ((rounds.few t floor shown blocked rs cs are).1, (rounds.new t floor shown blocked rs cs are).1)) first s sound parts copies is logs none
