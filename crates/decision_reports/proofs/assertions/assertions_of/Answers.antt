use Rattle.std.proofs.Common.{◌≡◌, List, length, sym, ◌∙◌, ap, subst}
use Rattle.std.specs.List.{AllZip}
use Rattle.alloy_syntax.specs.declared.tree.CommandKind.TheVariants.{Check}
use Rattle.decision_reports.specs.declared.taken_models.TakenModel.{TakenModel}
use Rattle.decision_reports.specs.declared.taken_models.TakenModels.{TakenModels}
use Rattle.decision_reports.specs.Taken.{IsTaken, AreTaken}
use Rattle.decision_reports.proofs.TextLists.{zip_length}
use Rattle.decision_reports.proofs.assertions.assertions_of.Goals as goal

pub decisions_on-requires-clause-count : goal.decisions_on-requires-clause-count
decisions_on-requires-clause-count c =
    let taken : AllZip (IsTaken Check) c.args.entries.now c.in-Ready.models.items = subst (λ (found : TakenModels). AreTaken Check c.args.entries.now found) c.in-Ready.is c.in_ok-models.ensures in
    ap (λ (xs : List TakenModel). length xs) c.deref.ensures.value ∙ sym (zip_length (IsTaken Check) c.args.entries.now c.in-Ready.models.items taken)
