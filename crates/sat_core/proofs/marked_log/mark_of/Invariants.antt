use Rattle.std.proofs.Common.{◌≡◌, take}
use Rattle.sat_core.specs.Marked.{mark_of}
use Rattle.sat_core.proofs.marked_log.mark_of.Given as goal

abbrev pub invariant-loop-lit : goal.invariant-loop-lit
invariant-loop-lit l = l.mark ≡ mark_of (take l.lit-index l.lits)
