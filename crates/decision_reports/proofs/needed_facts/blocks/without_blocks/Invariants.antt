use Rattle.named_model.specs.View.{named_view}
use Rattle.decision_reports.specs.FactSets.{IsCore}
use Rattle.decision_reports.proofs.needed_facts.blocks.without_blocks.Given as goal

abbrev pub invariant-loop-block : goal.invariant-loop-block
invariant-loop-block l = IsCore (named_view l.model) l.command l.core
