use Rattle.std.proofs.Common.{◌+◌, List, map, reverse, drop, ap, sym, ◌∙◌, append-nil}
use Rattle.named_model.specs.View.{phrase_view, phrases_view, named_view}
use Rattle.lowering_rules.specs.Parts.{expression_in}
use Rattle.lowering_rules.specs.Binders as binders
use Rattle.lowering_rules.specs.Lowering.{base_within, lowered, expressions_lowered}
use Rattle.body_lowering.specs.declared.locals.Local.{Local}
use Rattle.body_lowering.specs.Locals.{local_view, locals_view}
use Rattle.body_lowering.proofs.Loops.{loop_more, loop_all, given_in_front, pushed_argument}
use Rattle.body_lowering.proofs.rules.Rules.arguments.Goals as goal

pub loop-phrase-preserved : goal.loop-phrase-preserved
loop-phrase-preserved g c =
    let base = base_within c.args.at.calls (named_view c.args.model.now) in
    let ls = locals_view c.args.locals.now.items in
    let d = c.args.at.binders in
    let x = c.phrase-item.result in
    let same = c.loop-phrase.invariant.same in
    let p : Local = record { depth = d; expression = c.in_ok-expression.expression } in
    let e = expression_in (lowered base ls d (phrase_view x)) in
    let rest = expressions_lowered base ls d (phrases_view (drop (c.loop-phrase.phrase-index + 1) c.args.phrases.now)) in
    let is = c.in_ok-expression.ensures.value ∙ ap (λ (ks : List binders.Local). expression_in (lowered base ks d (phrase_view x))) same in
    record {
      same = c.in_ok-expression.ensures.locals ∙ same;
      left = loop_more
          (λ ys. given_in_front d (map local_view c.loop-phrase.given.items) (expressions_lowered base ls d (phrases_view ys)))
          (λ ys. given_in_front d (map local_view c.push.new.self.items) (expressions_lowered base ls d (phrases_view ys)))
          c.args.phrases.now c.loop-phrase.phrase-index x (binders.arguments d (expressions_lowered base ls d (phrases_view c.args.phrases.now))) c.loop-phrase-test.true c.phrase-item.is
          (pushed_argument d c.loop-phrase.given.items c.push.new.self.items p e rest c.in_ok-push.ensures.items (ap (binders.given d) is))
          c.loop-phrase.invariant.left;
    }

pub returns-clause-value : goal.returns-clause-value
returns-clause-value g c =
    let base = base_within c.args.at.calls (named_view c.args.model.now) in
    let ls = locals_view c.args.locals.now.items in
    let d = c.args.at.binders in
    let gs = map local_view c.loop-phrase.given.items in
    ap reverse (sym (append-nil gs)) ∙ loop_all (λ ys. given_in_front d gs (expressions_lowered base ls d (phrases_view ys))) c.args.phrases.now c.loop-phrase.phrase-index (binders.arguments d (expressions_lowered base ls d (phrases_view c.args.phrases.now))) c.loop-phrase-test.false c.loop-phrase.invariant.left
