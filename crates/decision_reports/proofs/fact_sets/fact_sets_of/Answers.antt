use Rattle.std.proofs.Common.{◌∙◌, length, sym, ap, subst}
use Rattle.alloy_syntax.specs.declared.tree.CommandKind.TheVariants.{Run}
use Rattle.decision_reports.specs.Taken.{AreTaken, IsTaken}
use Rattle.decision_reports.proofs.TextLists.{zip_length}
use Rattle.decision_reports.proofs.fact_sets.fact_sets_of.Goals as goal

pub sets_on-requires-clause-count : goal.sets_on-requires-clause-count
sets_on-requires-clause-count c =
    let taken = subst (AreTaken Run c.args.entries.now) c.in-Ready.is c.in_ok-models.ensures in
    ap length c.deref.ensures.value ∙ sym (zip_length (IsTaken Run) c.args.entries.now c.in-Ready.taken.items taken)
