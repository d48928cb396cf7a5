use Rattle.work_limits.proofs.StepUnits.{units_by_copies}
use Rattle.work_limits.proofs.laws.each_copy_takes_a_round.Goals as goal

pub returns : goal.returns
returns c v t pool first s sound parts copies is logs =
    let rounds = c.rounds_find_new_copies.ensures in
    units_by_copies v t pool (λ floor shown blocked rs cs are. ((rounds.few t floor shown blocked rs cs are).1, (rounds.new t floor shown blocked rs cs are).1)) first s sound parts copies is logs
