use Rattle.std.proofs.Common.{take}
use Rattle.std.specs.List.{AllZip}
use Rattle.decision_reports.specs.Taken.{IsTaken}
use Rattle.decision_reports.proofs.taken_models.read_taken.Given as goal

abbrev pub invariant-loop-entry : goal.invariant-loop-entry
invariant-loop-entry l = AllZip (IsTaken l.kind) (take l.entry-index l.entries) l.models.items
