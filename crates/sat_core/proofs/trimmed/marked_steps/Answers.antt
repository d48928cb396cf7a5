use Rattle.std.proofs.Common.{◌∙◌, ◌++◌, ◌∷◌, [], List, arith, ap, ap₂, append-nil, false, length, sym, take, true}
use Rattle.refutation_check.specs.declared.log.Step.{Step}
use Rattle.sat_core.specs.Assuming.{numbered}
use Rattle.sat_core.specs.Trimmed.{number_by, trimmed_by}
use Rattle.sat_core.proofs.NeededSteps.{trimmed_few, trimmed_more}
use Rattle.sat_core.proofs.trimmed.marked_steps.Goals as goal
use Rattle.sat_core.proofs.trimmed.marked_steps.Goals.{then-marks-place+in_ok-renumbered+in_ok-push, else-marks-place}

pub push-requires : goal.push-requires
push-requires c =
    record { room = omega (arith, c.loop-place-test.true, ap length c.loop-place.invariant, trimmed_few c.args.given c.args.numbers.now c.args.marks.now c.args.steps.now c.loop-place.place c.index-steps-place.result c.requires.marks c.loop-place-test.true, c.requires.few) }

pub loop-place-preserved : goal.loop-place-preserved
loop-place-preserved c =
    let more = trimmed_more c.args.given c.args.numbers.now c.args.marks.now c.args.steps.now c.loop-place.place c.index-steps-place.result c.requires.marks c.loop-place-test.true in
    let before : List Step = trimmed_by c.args.given c.args.numbers.now (take c.loop-place.place c.args.marks.now) (take c.loop-place.place c.args.steps.now) in
    elim c.if-marks-place.branch [
      | then-marks-place+in_ok-renumbered+in_ok-push w ↦
          w.log-is ∙ (w.in_ok-push.ensures.ok ∙ (ap₂ (λ (ss : List Step) (s : Step). ss ++ s ∷ []) c.loop-place.invariant
          (w.in_ok-renumbered.ensures ∙ ap (numbered (number_by c.args.given c.args.numbers.now)) c.index-steps-place.is) ∙ sym (more true w.if-marks-place.true)))
      | else-marks-place w ↦ w.log-is ∙ (c.loop-place.invariant ∙ (sym (append-nil before) ∙ sym (more false w.if-marks-place.false)))
    ]
