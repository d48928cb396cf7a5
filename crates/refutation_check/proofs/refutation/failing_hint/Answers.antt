use Rattle.std.proofs.Common.{arith, ap, ◌∙◌}
use Rattle.refutation_check.specs.Assumed.{Assumed}
use Rattle.refutation_check.proofs.Chains.{going_on, fails_here, refutes_forces}
use Rattle.refutation_check.proofs.refutation.failing_hint.Goals as goal
use Rattle.refutation_check.proofs.refutation.failing_hint.Goals.{in_default-via-in-Falsified+else-is_last, in_default-via-in-Unit+else-not-is_last, in_default-via-in_default}

pub loop-i-preserved : goal.loop-i-preserved
loop-i-preserved c =
    let was = c.loop-i.invariant in
    let a = c.if-not-is_last.true in
    let forced = c.in-Unit.ensures.sight in
    let falses = ap (λ (x : Assumed). x.falses) c.assume.ensures.assumed in
    record {
      going = rw (falses, c.negation.ensures) (going_on _ _ _ _ _ was.going c.in-Unit.l (omega (arith, a)) forced);
      vars = ap (λ (x : Assumed). x.vars) c.assume.ensures.assumed ∙ was.vars;
      few = c.assume.ensures.few;
    }

pub returns-in_default-clause-failure : goal.returns-in_default-clause-failure
returns-in_default-clause-failure c =
    let going = c.loop-i.invariant.going in
    elim c.in_default.branch [
      | in_default-via-in-Falsified+else-is_last w ↦
          let a = w.if-is_last.false in
          let refuted = w.in-Falsified.ensures.sight in
          fails_here _ _ _ _ _ going c.loop-i-test.true (λ _ l f. refutes_forces _ _ _ l refuted f) (λ last. absurd (a last))
      | in_default-via-in-Unit+else-not-is_last w ↦
          let a = w.if-not-is_last.false in
          let forced = w.in-Unit.ensures.sight in
          fails_here _ _ _ _ _ going c.loop-i-test.true (λ h. absurd (omega arith)) (λ _ r. refutes_forces _ _ _ _ r forced)
      | in_default-via-in_default w ↦
          let neither = w.in_default.ensures.sight in
          fails_here _ _ _ _ _ going c.loop-i-test.true (λ _. neither.1) (λ _. neither.0)
    ]
