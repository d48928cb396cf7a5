use Rattle.std.proofs.Common.{◌≡◌, ◌∙◌, ◌++◌, ◌+◌, ◌<◌, ◌≤◌, ℕ, List, length, length-append, take, get_or, ap, subst, sym, arith}
use Rattle.alloy_syntax.specs.declared.tree.CommandKind.TheVariants.{Check}
use Rattle.named_model.specs.View.{named_view}
use Rattle.script_format.specs.declared.entries.ModelEntry.{ModelEntry}
use Rattle.script_text.specs.Limits.{most_output}
use Rattle.decision_reports.specs.Taken.{IsTaken}
use Rattle.decision_reports.specs.Texts.{AreTexts}
use Rattle.decision_reports.specs.Reports.{IsDecisionOn, AreDecisionsOn, AreAssertionsOf}
use Rattle.decision_reports.proofs.TextLists.{texts_more, zip_here}
use Rattle.decision_reports.proofs.assertions.decisions_on.Goals as goal

told_more : (budget : ℕ) (entries : List ModelEntry) (i : ℕ) (x : ModelEntry) (old new lines : List ℕ) → i < length entries → x ≡ get_or entries i x → new ≡ old ++ lines
    → AreAssertionsOf budget (take i entries) old → AreDecisionsOn budget x lines → length (old ++ lines) ≤ most_output → AreAssertionsOf budget (take (i + 1) entries) new
told_more budget entries i x old new lines l item added told is fits =
    (texts_more (AreDecisionsOn budget) entries i x old new lines l item added told.0 is, subst (λ (t : List ℕ). length t ≤ most_output) (sym added) fits)

pub decisions_in-requires-clause-typed : goal.decisions_in-requires-clause-typed
decisions_in-requires-clause-typed c =
    let taken = zip_here (IsTaken Check) c.args.entries.now c.args.models.now c.loop-place.place c.index-entries-place.result c.index-models-place.result c.requires.taken c.loop-place-test.true c.index-entries-place.is c.index-models-place.is in
    taken.0.typed

pub decisions_in-requires-clause-problems : goal.decisions_in-requires-clause-problems
decisions_in-requires-clause-problems c =
    let taken = zip_here (IsTaken Check) c.args.entries.now c.args.models.now c.loop-place.place c.index-entries-place.result c.index-models-place.result c.requires.taken c.loop-place-test.true c.index-entries-place.is c.index-models-place.is in
    taken.1.problems

pub loop-place-preserved : goal.loop-place-preserved
loop-place-preserved c =
    let x = c.index-entries-place.result in
    let y = c.index-models-place.result in
    let m = named_view y.model in
    let lines = c.in_ok-lines.lines.items in
    let budget = c.args.budget in
    let taken = zip_here (IsTaken Check) c.args.entries.now c.args.models.now c.loop-place.place x y c.requires.taken c.loop-place-test.true c.index-entries-place.is c.index-models-place.is in
    let named = subst (λ (name : List ℕ). AreTexts (IsDecisionOn budget name m) y.numbers.items lines) c.text.ensures.value c.in_ok-lines.ensures in
    told_more budget c.args.entries.now c.loop-place.place x c.loop-place.text.items c.extend_from_slice.new.self.items lines c.loop-place-test.true c.index-entries-place.is
    (c.in_ok-extend_from_slice.ensures.items ∙ ap (λ (ys : List ℕ). c.loop-place.text.items ++ ys) c.deref.ensures.value) c.loop-place.invariant
    (m, taken.0, subst (λ (ns : List ℕ). AreTexts (IsDecisionOn budget x.name m) ns lines) taken.1.numbers named)
    (let joined = length-append c.loop-place.text.items lines in omega (arith, joined, c.in_ok-fits_output.ensures.ok))
