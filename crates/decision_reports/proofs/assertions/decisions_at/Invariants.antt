use Rattle.std.proofs.Common.{take}
use Rattle.named_model.specs.View.{named_view}
use Rattle.decision_reports.specs.Reports.{IsDecisionOn}
use Rattle.decision_reports.specs.Texts.{AreTexts}
use Rattle.decision_reports.proofs.assertions.decisions_at.Given as goal

abbrev pub invariant-loop-number : goal.invariant-loop-number
invariant-loop-number l = AreTexts (IsDecisionOn l.budget l.name (named_view l.model)) (take l.number-index l.numbers) l.text.items
