use Rattle.std.proofs.Common.{◌≡◌, ◌+◌, ◌≤◌, ◌∙◌, ◌++◌, ℕ, List, length, ap, subst, arith}
use Rattle.std.proofs.lemmas.List.{take_all}
use Rattle.alloy_syntax.specs.declared.tree.CommandKind.TheVariants.{Run}
use Rattle.script_format.specs.declared.entries.ModelEntry.{ModelEntry}
use Rattle.script_text.specs.Limits.{most_output}
use Rattle.decision_reports.specs.Taken.{IsTaken}
use Rattle.decision_reports.specs.FactReports.{AreFactSetsOf}
use Rattle.decision_reports.proofs.TextLists.{zip_here}
use Rattle.decision_reports.proofs.ToldFacts.{facts_more}
use Rattle.decision_reports.proofs.fact_sets.sets_on.Goals as goal

pub sets_in-requires-clause-typed : goal.sets_in-requires-clause-typed
sets_in-requires-clause-typed c =
    (zip_here (IsTaken Run) c.args.entries.now c.args.models.now c.loop-place.place c.index-entries-place.result c.index-models-place.result c.requires.taken c.loop-place-test.true c.index-entries-place.is c.index-models-place.is).0.typed

pub sets_in-requires-clause-problems : goal.sets_in-requires-clause-problems
sets_in-requires-clause-problems c =
    (zip_here (IsTaken Run) c.args.entries.now c.args.models.now c.loop-place.place c.index-entries-place.result c.index-models-place.result c.requires.taken c.loop-place-test.true c.index-entries-place.is c.index-models-place.is).1.problems

pub loop-place-preserved : goal.loop-place-preserved
loop-place-preserved c =
    let x = c.index-entries-place.result in
    let y = c.index-models-place.result in
    let taken = zip_here (IsTaken Run) c.args.entries.now c.args.models.now c.loop-place.place x y c.requires.taken c.loop-place-test.true c.index-entries-place.is c.index-models-place.is in
    let old = c.loop-place.text.items in
    let last = c.in_ok-lines.lines.items in
    let added = c.in_ok-extend_from_slice.ensures.items ∙ ap (λ (ys : List ℕ). old ++ ys) c.deref.ensures.value in
    let fits : length old + length last ≤ most_output = omega (arith, c.in_ok-fits_output.ensures.ok) in
    facts_more c.args.budget c.args.entries.now c.loop-place.place x y c.text.result.now old c.extend_from_slice.new.self.items last
    c.loop-place-test.true c.index-entries-place.is taken c.text.ensures.value added c.in_ok-lines.ensures fits c.loop-place.invariant

pub returns : goal.returns
returns c =
    subst (λ (es : List ModelEntry). AreFactSetsOf c.args.budget es c.loop-place.text.items) (take_all c.loop-place.place c.args.entries.now c.loop-place-test.false) c.loop-place.invariant
