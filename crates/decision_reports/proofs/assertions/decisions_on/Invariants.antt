use Rattle.std.proofs.Common.{take}
use Rattle.decision_reports.specs.Reports.{AreAssertionsOf}
use Rattle.decision_reports.proofs.assertions.decisions_on.Given as goal

abbrev pub invariant-loop-place : goal.invariant-loop-place
invariant-loop-place l = AreAssertionsOf l.budget (take l.place l.entries) l.text.items
