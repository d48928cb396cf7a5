use Rattle.std.proofs.Common.{◌∙◌, ℕ, List, ap, subst}
use Rattle.std.specs.List.{AllZip}
use Rattle.std.proofs.lemmas.List.{take_all}
use Rattle.script_format.specs.declared.entries.ModelEntry.{ModelEntry}
use Rattle.served_models.specs.Served.{model_line}
use Rattle.decision_reports.specs.declared.taken_models.FoundModel.{FoundModel}
use Rattle.decision_reports.specs.Taken.{IsTaken, IsFoundFor}
use Rattle.decision_reports.proofs.FoundModels.{taken_more, first_refused}
use Rattle.decision_reports.proofs.taken_models.read_taken.Goals as goal

pub returns-in-Refused : goal.returns-in-Refused
returns-in-Refused c =
    let x = c.entry-item.result in
    let told = c.text.result.now in
    let words = c.in-Refused.words.items in
    let refused = subst (λ (found : FoundModel). IsFoundFor c.args.kind told found) c.in-Refused.is c.in_ok-model.ensures in (
      x.name,
      words,
      first_refused c.args.kind c.args.entries.now c.loop-entry.entry-index x told words c.loop-entry.models.items c.loop-entry-test.true c.entry-item.is c.text.ensures.value c.loop-entry.invariant refused,
      c.in_ok-line-in-Refused.ensures ∙ ap (λ (name : List ℕ). model_line name c.deref.result.now) c.text-in-Refused.ensures.value ∙ ap (model_line x.name) c.deref.ensures.value,
    )

pub loop-entry-preserved : goal.loop-entry-preserved
loop-entry-preserved c =
    let x = c.entry-item.result in
    let told = c.text.result.now in
    let is = subst (λ (found : FoundModel). IsFoundFor c.args.kind told found) c.in-Ready.is c.in_ok-model.ensures in
    taken_more c.args.kind c.args.entries.now c.loop-entry.entry-index x told c.loop-entry.models.items c.push.new.self.items c.in-Ready.model
    c.loop-entry-test.true c.entry-item.is c.text.ensures.value c.in_ok-push-in-Ready.ensures.items c.loop-entry.invariant is

pub returns : goal.returns
returns c =
    subst (λ (es : List ModelEntry). AllZip (IsTaken c.args.kind) es c.loop-entry.models.items) (take_all c.loop-entry.entry-index c.args.entries.now c.loop-entry-test.false) c.loop-entry.invariant
