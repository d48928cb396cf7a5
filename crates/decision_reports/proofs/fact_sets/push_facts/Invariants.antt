use Rattle.std.proofs.Common.{◌≡◌, ◌++◌, take}
use Rattle.std.specs.List.{flat_map}
use Rattle.decision_reports.specs.FactReports.{fact_line}
use Rattle.decision_reports.proofs.fact_sets.push_facts.Given as goal

abbrev pub invariant-loop-fact : goal.invariant-loop-fact
invariant-loop-fact l = l.text.items ≡ l.fn.text.items ++ flat_map (fact_line l.model.fact_names.items) (take l.fact-index l.facts)
