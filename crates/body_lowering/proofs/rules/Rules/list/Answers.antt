use Rattle.std.proofs.Common.{◌+◌, List, map, drop, ap, ◌∙◌}
use Rattle.rel_formula.specs.Kernel.{more_formulas}
use Rattle.rel_formula.specs.View.{formula_tree}
use Rattle.named_model.specs.Phrase.{links_of}
use Rattle.named_model.specs.View.{link_view, named_view}
use Rattle.body_lowering.specs.Kernel.View.{part_view}
use Rattle.lowering_rules.specs.Parts.{formula_in, list_lowered}
use Rattle.lowering_rules.specs.Binders as binders
use Rattle.lowering_rules.specs.Lowering.{base_within, lowered, operands_lowered}
use Rattle.body_lowering.specs.Locals.{locals_view}
use Rattle.body_lowering.proofs.Loops.{loop_more, loop_all, front, front_all, pushed_formula}
use Rattle.body_lowering.proofs.rules.Rules.list.Goals as goal

pub loop-link-preserved : goal.loop-link-preserved
loop-link-preserved g c =
    let base = base_within c.args.at.calls (named_view c.args.model.now) in
    let ls = locals_view c.args.locals.now.items in
    let d = c.args.at.binders in
    let x = c.link-item.result in
    let same = c.loop-link.invariant.same in
    let rest = operands_lowered base ls d (links_of (map link_view (drop (c.loop-link.link-index + 1) c.args.links.now))) in
    let is = c.into_formula-in-loop-link.ensures ∙ ap formula_in (c.in_ok-part.ensures.value ∙ ap (λ (ks : List binders.Local). lowered base ks d (link_view x).operand) same) in
    record {
      same = c.in_ok-part.ensures.locals ∙ same;
      left = loop_more
          (λ ys. front (map formula_tree c.loop-link.operands.items) (operands_lowered base ls d (links_of (map link_view ys))))
          (λ ys. front (map formula_tree c.push-in-loop-link.new.self.items) (operands_lowered base ls d (links_of (map link_view ys))))
          c.args.links.now c.loop-link.link-index x (more_formulas (formula_in (part_view c.args.first)) (operands_lowered base ls d (links_of (map link_view c.args.links.now)))) c.loop-link-test.true c.link-item.is
          (pushed_formula c.loop-link.operands.items c.push-in-loop-link.new.self.items c.into_formula-in-loop-link.result (formula_in (lowered base ls d (link_view x).operand)) rest c.in_ok-push-2.ensures.items is)
          c.loop-link.invariant.left;
    }

pub returns-clause-value : goal.returns-clause-value
returns-clause-value g c =
    let base = base_within c.args.at.calls (named_view c.args.model.now) in
    let ls = locals_view c.args.locals.now.items in
    let d = c.args.at.binders in
    let fs = map formula_tree c.loop-link.operands.items in
    let whole = more_formulas (formula_in (part_view c.args.first)) (operands_lowered base ls d (links_of (map link_view c.args.links.now))) in
    c.list_of.ensures ∙ ap (list_lowered c.args.operator) (front_all fs ∙ loop_all (λ ys. front fs (operands_lowered base ls d (links_of (map link_view ys)))) c.args.links.now c.loop-link.link-index whole c.loop-link-test.false c.loop-link.invariant.left)
