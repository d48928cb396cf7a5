use Rattle.std.proofs.Common.{◌≡◌, ◌∙◌, ◌++◌, ◌+◌, ◌<◌, ◌≤◌, ℕ, List, All, length, length-append, take, get_or, ap, subst, sym, arith}
use Rattle.std.specs.Global.{Vec}
use Rattle.std.proofs.lemmas.List.{take_all}
use Rattle.tuple_core.proofs.Steps.{all_at}
use Rattle.script_format.specs.declared.entries.ModelEntry.{ModelEntry}
use Rattle.script_text.specs.Limits.{most_output}
use Rattle.served_models.specs.declared.commands.ServedCommand.{ServedCommand}
use Rattle.decision_reports.specs.Texts.{AreTexts}
use Rattle.explorer_run.specs.Served.{IsServable}
use Rattle.explorer_cli.specs.ServedCrews.{IsServedBlock, AreServable, AreServedBlocks, AreServedTexts}
use Rattle.explorer_cli.proofs.CrewBlocks.{texts_more}
use Rattle.explorer_cli.proofs.crew_texts.text_of_crews.Goals as goal

crews_more : (workers budget : ℕ) (entries : List ModelEntry) (models : List (Vec ServedCommand)) (i : ℕ) (entry : ModelEntry) (made : Vec ServedCommand) (old new lines : List ℕ) → i < length entries → length models ≡ length entries
    → entry ≡ get_or entries i entry → made ≡ get_or models i made → new ≡ old ++ lines
    → AreServedTexts workers budget (take i entries) (take i models) old → AreServedBlocks workers budget i entry made lines → length (old ++ lines) ≤ most_output
    → AreServedTexts workers budget (take (i + 1) entries) (take (i + 1) models) new
crews_more workers budget entries models i entry made old new lines l count item there added told is fits = (
  texts_more (AreServedBlocks workers budget) entries models i entry made old new lines l count item there added told.0 is,
  subst (λ (t : List ℕ). length t ≤ most_output) (sym added) fits,
)

pub blocks_of-requires-clause-servable : goal.blocks_of-requires-clause-servable
blocks_of-requires-clause-servable g c κs within =
    let count = c.requires.count in
    let l = c.loop-place-test.true in
    subst (λ (cs : List ServedCommand). All (λ (x : ServedCommand). IsServable x.problem) cs) (sym c.deref.ensures.value)
    (all_at AreServable c.args.models.now c.loop-place.place c.index-models-place.result c.requires.servable (omega (arith, l, count)) c.index-models-place.is)

pub loop-place-preserved : goal.loop-place-preserved
loop-place-preserved g c =
    let workers = c.args.workers in
    let budget = c.args.budget in
    let entry = c.index-entries-place.result in
    let made = c.index-models-place.result in
    let old = c.loop-place.text.items in
    let lines = c.in_ok-lines.lines.items in
    let named = subst (λ (name : List ℕ). AreTexts (IsServedBlock workers budget name) c.deref.result.now lines) c.text-name.ensures.value c.in_ok-lines.ensures.texts in
    let blocks = subst (λ (cs : List ServedCommand). AreTexts (IsServedBlock workers budget entry.name) cs lines) c.deref.ensures.value named in
    crews_more workers budget c.args.entries.now c.args.models.now c.loop-place.place entry made old c.extend_from_slice.new.self.items lines c.loop-place-test.true c.requires.count c.index-entries-place.is c.index-models-place.is
    (c.in_ok-extend_from_slice.ensures.items ∙ ap (λ (ys : List ℕ). old ++ ys) c.deref-in-loop-place.ensures.value) c.loop-place.invariant blocks
    (let joined = length-append old lines in omega (arith, joined, c.in_ok-fits_output.ensures.ok))

pub returns : goal.returns
returns g c =
    let count = c.requires.count in
    let past = c.loop-place-test.false in
    let i = c.loop-place.place in
    let entries = c.args.entries.now in
    let text = c.loop-place.text.items in
    let all = take_all i c.args.models.now (omega (arith, past, count)) in
    record {
      texts =
          subst (λ (es : List ModelEntry). AreServedTexts c.args.workers c.args.budget es c.args.models.now text) (take_all i entries past)
          (subst (λ (ms : List (Vec ServedCommand)). AreServedTexts c.args.workers c.args.budget (take i entries) ms text) all c.loop-place.invariant);
    }
