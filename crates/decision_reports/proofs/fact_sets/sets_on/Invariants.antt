use Rattle.std.proofs.Common.{take}
use Rattle.decision_reports.specs.FactReports.{AreFactSetsOf}
use Rattle.decision_reports.proofs.fact_sets.sets_on.Given as goal

abbrev pub invariant-loop-place : goal.invariant-loop-place
invariant-loop-place l = AreFactSetsOf l.budget (take l.place l.entries) l.text.items
