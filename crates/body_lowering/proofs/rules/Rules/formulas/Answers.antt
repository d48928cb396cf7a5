use Rattle.std.proofs.Common.{◌+◌, List, map, drop, ap, ◌∙◌}
use Rattle.rel_formula.specs.View.{formula_tree}
use Rattle.named_model.specs.View.{phrase_view, phrases_view, named_view}
use Rattle.lowering_rules.specs.Parts.{formula_in}
use Rattle.lowering_rules.specs.Binders as binders
use Rattle.lowering_rules.specs.Lowering.{base_within, lowered, formulas_lowered}
use Rattle.body_lowering.specs.Locals.{locals_view}
use Rattle.body_lowering.proofs.Loops.{loop_more, loop_all, front, front_all, pushed_formula}
use Rattle.body_lowering.proofs.rules.Rules.formulas.Goals as goal

pub loop-phrase-preserved : goal.loop-phrase-preserved
loop-phrase-preserved g c =
    let base = base_within c.args.at.calls (named_view c.args.model.now) in
    let ls = locals_view c.args.locals.now.items in
    let d = c.args.at.binders in
    let x = c.phrase-item.result in
    let same = c.loop-phrase.invariant.same in
    let rest = formulas_lowered base ls d (phrases_view (drop (c.loop-phrase.phrase-index + 1) c.args.phrases.now)) in
    let is = c.in_ok-another.ensures.value ∙ ap (λ (ks : List binders.Local). formula_in (lowered base ks d (phrase_view x))) same in
    record {
      same = c.in_ok-another.ensures.locals ∙ same;
      left = loop_more
          (λ ys. front (map formula_tree c.loop-phrase.formulas.items) (formulas_lowered base ls d (phrases_view ys)))
          (λ ys. front (map formula_tree c.push.new.self.items) (formulas_lowered base ls d (phrases_view ys)))
          c.args.phrases.now c.loop-phrase.phrase-index x (formulas_lowered base ls d (phrases_view c.args.phrases.now)) c.loop-phrase-test.true c.phrase-item.is
          (pushed_formula c.loop-phrase.formulas.items c.push.new.self.items c.in_ok-another.another (formula_in (lowered base ls d (phrase_view x))) rest c.in_ok-push.ensures.items is)
          c.loop-phrase.invariant.left;
    }

pub returns-clause-value : goal.returns-clause-value
returns-clause-value g c =
    let base = base_within c.args.at.calls (named_view c.args.model.now) in
    let ls = locals_view c.args.locals.now.items in
    let d = c.args.at.binders in
    let fs = map formula_tree c.loop-phrase.formulas.items in
    front_all fs ∙ loop_all (λ ys. front fs (formulas_lowered base ls d (phrases_view ys))) c.args.phrases.now c.loop-phrase.phrase-index (formulas_lowered base ls d (phrases_view c.args.phrases.now)) c.loop-phrase-test.false c.loop-phrase.invariant.left
