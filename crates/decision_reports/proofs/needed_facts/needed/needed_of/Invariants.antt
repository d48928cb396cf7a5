use Rattle.std.proofs.Common.{drop}
use Rattle.named_model.specs.View.{named_view}
use Rattle.decision_reports.specs.Trials.{AreTried}
use Rattle.decision_reports.proofs.needed_facts.needed.needed_of.Given as goal

abbrev pub invariant-loop-fact : goal.invariant-loop-fact
invariant-loop-fact l = AreTried (named_view l.model) l.command (drop l.fact-index l.facts) l.tried
