use Rattle.std.proofs.Common.{All, take}
use Rattle.refutation_check.specs.declared.log.Step.{Step}
use Rattle.refutation_check.specs.Chain.{Subsumes}
use Rattle.sat_core.proofs.marked_log.is_contained.Given as goal

abbrev pub invariant-loop-place : goal.invariant-loop-place
invariant-loop-place l = All (λ (s : Step). ¬ Subsumes l.clause s.clause) (take l.place l.steps)
