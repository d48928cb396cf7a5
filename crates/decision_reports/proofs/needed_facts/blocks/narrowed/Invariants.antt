use Rattle.named_model.specs.View.{named_view}
use Rattle.decision_reports.specs.FactSets.{IsCore}
use Rattle.decision_reports.proofs.needed_facts.blocks.narrowed.Given as goal

abbrev pub invariant-sizes : goal.invariant-sizes
invariant-sizes l = IsCore (named_view l.model) l.command l.core

abbrev pub decreases-sizes : goal.decreases-sizes
decreases-sizes l = l.size
