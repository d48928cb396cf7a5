use Rattle.sat_core.proofs.Merged.{HasFirst}
use Rattle.sat_core.proofs.marked_log.has_each.Given as goal

abbrev pub invariant-loop-other : goal.invariant-loop-other
invariant-loop-other l = HasFirst l.lits l.others l.other-index l.at
