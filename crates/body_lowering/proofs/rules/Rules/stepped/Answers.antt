use Rattle.std.proofs.Common.{◌+◌, List, map, drop, ap, ◌∙◌}
use Rattle.named_model.specs.Phrase.{steps_of}
use Rattle.named_model.specs.View.{step_view, named_view}
use Rattle.body_lowering.specs.Kernel.View.{part_view}
use Rattle.lowering_rules.specs.Binders as binders
use Rattle.lowering_rules.specs.Lowering.{base_within, steps_lowered}
use Rattle.body_lowering.specs.Locals.{locals_view}
use Rattle.body_lowering.specs.Steps.{step_lowered}
use Rattle.body_lowering.proofs.Loops.{loop_more, loop_all}
use Rattle.body_lowering.proofs.Chains.{step_by_step}
use Rattle.body_lowering.proofs.rules.Rules.stepped.Goals as goal

pub loop-step-preserved : goal.loop-step-preserved
loop-step-preserved g c =
    let base = base_within c.args.at.calls (named_view c.args.model.now) in
    let ls = locals_view c.args.locals.now.items in
    let d = c.args.at.binders in
    let x = c.step-item.result in
    let same = c.loop-step.invariant.same in
    let before = part_view c.loop-step.part in
    let after = part_view c.in_ok-part.part in
    let rest = steps_of (map step_view (drop (c.loop-step.step-index + 1) c.args.steps.now)) in
    let is = c.in_ok-part.ensures.value ∙ ap (λ (ks : List binders.Local). step_lowered base ks d before (step_view x)) same in
    record {
      same = c.in_ok-part.ensures.locals ∙ same;
      left = loop_more
          (λ ys. steps_lowered base ls d before (steps_of (map step_view ys)))
          (λ ys. steps_lowered base ls d after (steps_of (map step_view ys)))
          c.args.steps.now c.loop-step.step-index x (steps_lowered base ls d (part_view c.args.head) (steps_of (map step_view c.args.steps.now))) c.loop-step-test.true c.step-item.is
          (ap (λ y. steps_lowered base ls d y rest) is ∙ step_by_step base ls d before (step_view x) rest)
          c.loop-step.invariant.left;
    }

pub returns-clause-value : goal.returns-clause-value
returns-clause-value g c =
    let base = base_within c.args.at.calls (named_view c.args.model.now) in
    let ls = locals_view c.args.locals.now.items in
    let d = c.args.at.binders in
    loop_all (λ ys. steps_lowered base ls d (part_view c.loop-step.part) (steps_of (map step_view ys))) c.args.steps.now c.loop-step.step-index (steps_lowered base ls d (part_view c.args.head) (steps_of (map step_view c.args.steps.now))) c.loop-step-test.false c.loop-step.invariant.left
