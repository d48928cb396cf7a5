use Rattle.sat_core.proofs.Stops.{value_open}
use Rattle.minimiser.proofs.lowering.settles.Goals as goal

pub lower-requires-clause-is_open : goal.lower-requires-clause-is_open
lower-requires-clause-is_open c = value_open _ _ c.in-None.ensures
