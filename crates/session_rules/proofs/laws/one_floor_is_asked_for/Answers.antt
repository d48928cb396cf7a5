use Rattle.session_rules.proofs.OneFloor.{one_floor}
use Rattle.session_rules.proofs.laws.one_floor_is_asked_for.Goals as goal

pub returns : goal.returns
returns c = one_floor
