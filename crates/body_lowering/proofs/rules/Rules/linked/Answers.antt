use Rattle.std.proofs.Common.{◌+◌, ◌-◌, List, map, length, take, drop, ap, sym, ◌∙◌}
use Rattle.std.proofs.lemmas.List.{take_rest}
use Rattle.rel_formula.specs.Kernel.{more_formulas}
use Rattle.named_model.specs.declared.phrase.Link.{Link}
use Rattle.named_model.specs.Phrase.{links_of}
use Rattle.named_model.specs.View.{link_view, named_view}
use Rattle.body_lowering.specs.Kernel.View.{part_view}
use Rattle.lowering_rules.specs.Parts.{formula_in, joins_all, operator_lowered, list_lowered}
use Rattle.lowering_rules.specs.Binders as binders
use Rattle.lowering_rules.specs.Lowering.{base_within, lowered, links_lowered, operands_lowered}
use Rattle.body_lowering.specs.Locals.{locals_view}
use Rattle.body_lowering.proofs.Loops.{next_is, loop_more, loop_all}
use Rattle.body_lowering.proofs.Chains.{operator_seen, two_by_two, listed}
use Rattle.body_lowering.proofs.rules.Rules.linked.Goals as goal

pub loop-place-preserved : goal.loop-place-preserved
loop-place-preserved g c =
    let base = base_within c.args.at.calls (named_view c.args.model.now) in
    let ls = locals_view c.args.locals.now.items in
    let d = c.args.at.binders in
    let x = c.index-links-place.result in
    let same = c.loop-place.invariant.same in
    let before = part_view c.loop-place.part in
    let after = part_view c.in_ok-part.part in
    let rest = links_of (map link_view (drop (c.loop-place.place + 1) c.args.links.now)) in
    let is = c.in_ok-part.ensures.value ∙ ap (λ (ks : List binders.Local). operator_lowered (link_view x).operator before (lowered base ks d (link_view x).operand)) same in
    record {
      same = c.in_ok-part.ensures.locals ∙ same;
      left = loop_more
          (λ ys. links_lowered base ls d before (links_of (map link_view ys)))
          (λ ys. links_lowered base ls d after (links_of (map link_view ys)))
          c.args.links.now c.loop-place.place x (links_lowered base ls d (part_view c.args.first) (links_of (map link_view c.args.links.now))) c.loop-place-test.true c.index-links-place.is
          (ap (λ y. links_lowered base ls d y rest) is ∙ two_by_two base ls d before (link_view x) rest (ap joins_all (operator_seen x) ∙ sym c.joins_all.ensures ∙ c.if-joins_all.false))
          c.loop-place.invariant.left;
    }

pub returns-clause-value : goal.returns-clause-value
returns-clause-value g c =
    let base = base_within c.args.at.calls (named_view c.args.model.now) in
    let ls = locals_view c.args.locals.now.items in
    let d = c.args.at.binders in
    loop_all (λ ys. links_lowered base ls d (part_view c.loop-place.part) (links_of (map link_view ys))) c.args.links.now c.loop-place.place (links_lowered base ls d (part_view c.args.first) (links_of (map link_view c.args.links.now))) c.loop-place-test.false c.loop-place.invariant.left

pub returns-then-joins_all-clause-value : goal.returns-then-joins_all-clause-value
returns-then-joins_all-clause-value g c =
    let base = base_within c.args.at.calls (named_view c.args.model.now) in
    let ls = locals_view c.args.locals.now.items in
    let d = c.args.at.binders in
    let all = c.args.links.now in
    let i = c.loop-place.place in
    let x = c.index-links-place.result in
    let part = part_view c.loop-place.part in
    let here = next_is all i x c.loop-place-test.true c.index-links-place.is in
    c.in_ok-list.ensures.value
    ∙ ap (λ (ks : List binders.Local). list_lowered x.operator (more_formulas (formula_in part) (operands_lowered base ks d (links_of (map link_view (take (length all - i) (drop i all))))))) c.loop-place.invariant.same
    ∙ ap (λ (ys : List Link). list_lowered x.operator (more_formulas (formula_in part) (operands_lowered base ls d (links_of (map link_view ys))))) (take_rest all i)
    ∙ listed base ls d part x (drop (i + 1) all) (drop i all) here (sym c.joins_all.ensures ∙ c.if-joins_all.true)
    ∙ c.loop-place.invariant.left
