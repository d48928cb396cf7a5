use Rattle.std.proofs.Common.{◌≡◌, ◌+◌, ◌∷◌, List, drop, ap, ◌∙◌}
use Rattle.named_model.specs.View.{phrase_view, phrases_view, named_view}
use Rattle.lowering_rules.specs.Parts.{expression_in}
use Rattle.lowering_rules.specs.Binders as binders
use Rattle.lowering_rules.specs.Lowering.{base_within, lowered, behind_values}
use Rattle.body_lowering.specs.declared.locals.Local.{Local}
use Rattle.body_lowering.specs.Locals.{locals_view}
use Rattle.body_lowering.proofs.Loops.{loop_more, loop_all, pushed_local}
use Rattle.body_lowering.proofs.rules.Rules.values.Goals as goal

pub loop-phrase-preserved : goal.loop-phrase-preserved
loop-phrase-preserved g c =
    let base = base_within c.args.at.calls (named_view c.args.model.now) in
    let d = c.args.at.binders in
    let x = c.phrase-item.result in
    let now = locals_view c.loop-phrase.locals.items in
    let p : Local = record { depth = d; expression = c.in_ok-expression.expression } in
    let more = pushed_local _ c.push.new.self.items p c.in_ok-push.ensures.items in
    let is = c.in_ok-expression.ensures.value in
    let turned : locals_view c.push.new.self.items ≡ binders.given d (expression_in (lowered base now d (phrase_view x))) ∷ now =
    more ∙ (λ i. binders.given d (is i) ∷ c.in_ok-expression.ensures.locals i) in
    loop_more
    (λ ys. behind_values base now d (phrases_view ys))
    (λ ys. behind_values base (locals_view c.push.new.self.items) d (phrases_view ys))
    c.args.phrases.now c.loop-phrase.phrase-index x (behind_values base (locals_view c.args.locals.now.items) d (phrases_view c.args.phrases.now)) c.loop-phrase-test.true c.phrase-item.is
    (ap (λ (ks : List binders.Local). behind_values base ks d (phrases_view (drop (c.loop-phrase.phrase-index + 1) c.args.phrases.now))) turned)
    c.loop-phrase.invariant

pub returns : goal.returns
returns g c =
    let base = base_within c.args.at.calls (named_view c.args.model.now) in
    let d = c.args.at.binders in
    loop_all (λ ys. behind_values base (locals_view c.loop-phrase.locals.items) d (phrases_view ys)) c.args.phrases.now c.loop-phrase.phrase-index (behind_values base (locals_view c.args.locals.now.items) d (phrases_view c.args.phrases.now)) c.loop-phrase-test.false c.loop-phrase.invariant
