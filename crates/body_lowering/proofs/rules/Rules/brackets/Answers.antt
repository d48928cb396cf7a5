use Rattle.std.proofs.Common.{◌+◌, List, drop, ap, ◌∙◌}
use Rattle.rel_formula.specs.Kernel.{ExpressionTree, join}
use Rattle.rel_formula.specs.View.{expression_tree}
use Rattle.named_model.specs.View.{phrase_view, phrases_view, named_view}
use Rattle.lowering_rules.specs.Parts.{expression_in, brackets_lowered}
use Rattle.lowering_rules.specs.Binders as binders
use Rattle.lowering_rules.specs.Lowering.{base_within, lowered, expressions_lowered}
use Rattle.body_lowering.specs.Locals.{locals_view}
use Rattle.body_lowering.proofs.Loops.{loop_more, loop_all}
use Rattle.body_lowering.proofs.rules.Rules.brackets.Goals as goal

pub loop-phrase-preserved : goal.loop-phrase-preserved
loop-phrase-preserved g c =
    let base = base_within c.args.at.calls (named_view c.args.model.now) in
    let ls = locals_view c.args.locals.now.items in
    let d = c.args.at.binders in
    let x = c.phrase-item.result in
    let same = c.loop-phrase.invariant.same in
    let rest = expressions_lowered base ls d (phrases_view (drop (c.loop-phrase.phrase-index + 1) c.args.phrases.now)) in
    let is = c.in_ok-another.ensures.value ∙ ap (λ (ks : List binders.Local). expression_in (lowered base ks d (phrase_view x))) same in
    record {
      same = c.in_ok-another.ensures.locals ∙ same;
      left = loop_more
          (λ ys. brackets_lowered (expression_tree c.loop-phrase.all) (expressions_lowered base ls d (phrases_view ys)))
          (λ ys. brackets_lowered (expression_tree c.in_ok-all.all) (expressions_lowered base ls d (phrases_view ys)))
          c.args.phrases.now c.loop-phrase.phrase-index x (brackets_lowered (expression_tree c.args.head) (expressions_lowered base ls d (phrases_view c.args.phrases.now))) c.loop-phrase-test.true c.phrase-item.is
          (ap (λ (e : ExpressionTree). brackets_lowered e rest) (c.in_ok-all.ensures ∙ ap (λ (e : ExpressionTree). join e (expression_tree c.loop-phrase.all)) is))
          c.loop-phrase.invariant.left;
    }

pub returns-clause-value : goal.returns-clause-value
returns-clause-value g c =
    let base = base_within c.args.at.calls (named_view c.args.model.now) in
    let ls = locals_view c.args.locals.now.items in
    let d = c.args.at.binders in
    loop_all (λ ys. brackets_lowered (expression_tree c.loop-phrase.all) (expressions_lowered base ls d (phrases_view ys))) c.args.phrases.now c.loop-phrase.phrase-index (brackets_lowered (expression_tree c.args.head) (expressions_lowered base ls d (phrases_view c.args.phrases.now))) c.loop-phrase-test.false c.loop-phrase.invariant.left
