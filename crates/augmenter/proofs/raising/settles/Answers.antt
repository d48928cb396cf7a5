use Rattle.sat_core.proofs.Stops.{value_open}
use Rattle.augmenter.proofs.raising.settles.Goals as goal

pub returns-in-Some-clause-valued : goal.returns-in-Some-clause-valued
returns-in-Some-clause-valued c = λ t. (c.in-Some.field-0, c.in-Some.ensures)

pub tries-requires-clause-is_open : goal.tries-requires-clause-is_open
tries-requires-clause-is_open c = value_open _ _ c.in-None.ensures
