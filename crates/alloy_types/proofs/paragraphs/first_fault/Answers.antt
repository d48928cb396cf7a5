use Rattle.std.proofs.Common.{◌+◌, ◌<◌, sym, ap, ◌∙◌, arith, Err, length}
use Rattle.std.proofs.lemmas.Result.{err_from_is_err_and}
use Rattle.alloy_types.proofs.Order.{fine_start, fine_more, fine_fault, fine_end}
use Rattle.alloy_types.proofs.paragraphs.first_fault.Goals as goal

pub loop-number-init : goal.loop-number-init
loop-number-init c = fine_start c.args.outcomes.now c.args.first c.args.count

pub returns-in_err-outcomes : goal.returns-in_err-outcomes
returns-in_err-outcomes c =
    let p = err_from_is_err_and c.from_residual.result c.from_residual.ensures.1 in
    let k = c.loop-number.number in
    let less : k < c.args.first + c.args.count = omega (arith, c.loop-number-test.true, c.min.ensures) in
    let inside : k < length c.args.outcomes.now = omega (arith, c.loop-number-test.true, c.min.ensures, c.saturating_sub-left.ensures, c.loop-number.auto.number) in
    p.1 ∙ ap Err p.2 ∙ sym (fine_fault c.args.outcomes.now c.args.first c.args.count k c.in_err-outcomes.field-0.0 less inside c.in_err-outcomes.was c.loop-number.invariant)

pub loop-number-preserved : goal.loop-number-preserved
loop-number-preserved c =
    let k = c.loop-number.number in
    let less : k < c.args.first + c.args.count = omega (arith, c.loop-number-test.true, c.min.ensures) in
    let inside : k < length c.args.outcomes.now = omega (arith, c.loop-number-test.true, c.min.ensures, c.saturating_sub-left.ensures, c.loop-number.auto.number) in
    fine_more c.args.outcomes.now c.args.first c.args.count k less inside c.in_ok-outcomes.was c.loop-number.invariant

pub returns : goal.returns
returns c =
    let k = c.loop-number.number in
    sym (fine_end c.args.outcomes.now c.args.first c.args.count k c.saturating_sub-left.result c.saturating_sub-left.ensures
    (omega (arith, c.loop-number-test.false, c.min.ensures)) c.loop-number.invariant)
