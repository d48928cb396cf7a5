use Rattle.std.proofs.Common.{All, take}
use Rattle.refutation_check.specs.Log.{IsLog}
use Rattle.work_limits.proofs.kept.parts_are_logs.Given as goal

abbrev pub invariant-loop-part : goal.invariant-loop-part
invariant-loop-part l = All (λ part. IsLog part.log) (take l.part-index l.parts)
