use Rattle.std.proofs.Common.{All, take}
use Rattle.named_model.specs.View.{named_view}
use Rattle.decision_reports.specs.Taken.{CanBeRun}
use Rattle.decision_reports.proofs.taken_models.first_lack.Given as goal

abbrev pub invariant-loop-number : goal.invariant-loop-number
invariant-loop-number l = All (CanBeRun (named_view l.model)) (take l.number-index l.numbers)
