use Rattle.std.proofs.Common.{◌∙◌, ◌++◌, ℕ, List, get_or, ap, subst}
use Rattle.std.proofs.lemmas.List.{get_or_default, take_all}
use Rattle.tuple_core.proofs.Steps.{all_at}
use Rattle.named_model.specs.View.{named_view}
use Rattle.decision_reports.specs.Taken.{CanBeRun}
use Rattle.decision_reports.specs.Texts.{AreTexts}
use Rattle.decision_reports.specs.Reports.{IsDecisionOn}
use Rattle.decision_reports.proofs.TextLists.{texts_more}
use Rattle.decision_reports.proofs.assertions.decisions_at.Goals as goal

pub decision_on-requires-clause-problem : goal.decision_on-requires-clause-problem
decision_on-requires-clause-problem c =
    let xs = c.args.numbers.now in
    let i = c.loop-number.number-index in
    let n = get_or xs i 0 in
    all_at (CanBeRun (named_view c.args.model.now)) xs i n c.requires.problems c.loop-number-test.true (get_or_default xs i 0 n c.loop-number-test.true)

pub loop-number-preserved : goal.loop-number-preserved
loop-number-preserved c =
    let xs = c.args.numbers.now in
    let i = c.loop-number.number-index in
    let n = get_or xs i 0 in
    texts_more (IsDecisionOn c.args.budget c.args.name.now (named_view c.args.model.now)) xs i n c.loop-number.text.items c.extend_from_slice.new.self.items c.in_ok-lines.lines.items
    c.loop-number-test.true (get_or_default xs i 0 n c.loop-number-test.true)
    (c.in_ok-extend_from_slice.ensures.items ∙ ap (λ (ys : List ℕ). c.loop-number.text.items ++ ys) c.deref.ensures.value) c.loop-number.invariant c.in_ok-lines.ensures

pub returns : goal.returns
returns c =
    subst (λ (ys : List ℕ). AreTexts (IsDecisionOn c.args.budget c.args.name.now (named_view c.args.model.now)) ys c.loop-number.text.items)
    (take_all c.loop-number.number-index c.args.numbers.now c.loop-number-test.false) c.loop-number.invariant
