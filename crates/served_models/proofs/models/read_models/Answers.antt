use Rattle.std.proofs.Common.{◌∙◌, ℕ, List, ap, subst}
use Rattle.served_models.specs.Served.{model_line, IsFound}
use Rattle.served_models.specs.declared.commands.Commands.{Commands}
use Rattle.std.proofs.lemmas.Result.{err_from_is_err_and}
use Rattle.served_models.proofs.Usables.{used_more, first_refused, large_model}
use Rattle.served_models.proofs.models.read_models.Goals as goal

pub returns-in-Refused-clause-found : goal.returns-in-Refused-clause-found
returns-in-Refused-clause-found c =
    let x = c.index-entries-place.result in
    let told = c.text.result.now in
    let words = c.in-Refused.words.items in
    let before = c.loop-place.invariant in
    let refused = subst (λ (found : Commands). IsFound c.args.purpose c.args.sessions.now c.loop-place.place told found) c.in-Refused.is c.in_ok-made.ensures.found in (
      x.name,
      words,
      first_refused c.args.purpose c.args.sessions.now c.args.entries.now c.loop-place.place x told words before.0 c.loop-place-test.true c.index-entries-place.is c.text.ensures.value before.1 refused,
      c.in_ok-line-in-Refused.ensures ∙ ap (λ (name : List ℕ). model_line name c.deref.result.now) c.text-in-Refused.ensures.value ∙ ap (model_line x.name) c.deref.ensures.value,
    )

pub loop-place-preserved : goal.loop-place-preserved
loop-place-preserved c =
    let x = c.index-entries-place.result in
    let told = c.text.result.now in
    let is = subst (λ (found : Commands). IsFound c.args.purpose c.args.sessions.now c.loop-place.place told found) c.in-Ready.is c.in_ok-made.ensures.found in
    used_more c.args.purpose c.args.sessions.now c.args.entries.now c.loop-place.place x told c.loop-place.models.items c.push.new.self.items c.in-Ready.made
    c.loop-place-test.true c.index-entries-place.is c.text.ensures.value c.in_ok-push-in-Ready.ensures.items c.loop-place.invariant is.0 is.1 is.2

pub returns-in_err-made-clause-large : goal.returns-in_err-made-clause-large
returns-in_err-made-clause-large c =
    let x = c.index-entries-place.result in
    let p = err_from_is_err_and c.from_residual.result c.from_residual.ensures.1 in
    rw (p.1, p.2) (λ is. large_model c.args.sessions.now c.args.entries.now c.loop-place.place x c.text.result.now c.loop-place-test.true c.index-entries-place.is c.text.ensures.value (c.in_err-made.ensures.large is))
