use Rattle.std.proofs.Common.{sym, subst}
use Rattle.named_model.specs.View.{named_view}
use Rattle.lowering_rules.specs.Formula.{all_facts}
use Rattle.decision_reports.specs.FactSets.{IsCore}
use Rattle.decision_reports.proofs.KeptNumbers.{kept_some}
use Rattle.decision_reports.proofs.TriedFacts.{smaller_core}
use Rattle.decision_reports.proofs.needed_facts.blocks.without_block.Goals as goal

pub try_some-requires-clause-some : goal.try_some-requires-clause-some
try_some-requires-clause-some c =
    let m = named_view c.args.model.now in
    kept_some (all_facts m) c.args.core.facts.items c.deref.result.now c.in_ok-others.others.items _ c.requires.core.translation.some c.deref.ensures.value c.in_ok-others.ensures

pub returns : goal.returns
returns c =
    let m = named_view c.args.model.now in
    subst (IsCore m c.args.command) (sym c.smaller.ensures) (smaller_core m c.args.command c.args.budget c.in_ok-others.others.items c.args.core c.in_ok-trial.trial c.requires.core c.in_ok-trial.ensures)
