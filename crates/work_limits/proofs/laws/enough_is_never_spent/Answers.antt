use Rattle.std.proofs.Common.{arith}
use Rattle.work_limits.proofs.laws.enough_is_never_spent.Goals as goal

pub returns-clause-few : goal.returns-clause-few
returns-clause-few c v t pool first s sound step done evidence logs =
    let most = c.work_has_few_units.ensures v t pool first s sound step done.parts done.copies evidence.work logs in
    let units = evidence.units in
    omega arith

pub returns-clause-never : goal.returns-clause-never
returns-clause-never c v t pool first s sound step enough done answer evidence logs =
    let most = c.work_has_few_units.ensures v t pool first s sound step done.parts done.copies evidence.work logs in
    let units = evidence.units in
    let budget = answer.0 in
    omega arith
