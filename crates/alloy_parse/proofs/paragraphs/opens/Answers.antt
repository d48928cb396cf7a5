use Rattle.std.proofs.Common.{◌≡◌, true, false}
use Rattle.std.proofs.lemmas.Result.{err_from_is_err_and}
use Rattle.alloy_syntax.specs.declared.class.Class.TheVariants.{Open}
use Rattle.alloy_syntax.specs.Readers.{next_is}
use Rattle.alloy_syntax.proofs.Loop.{loop_fails, reads_more, reads_ends}
use Rattle.alloy_parse.proofs.paragraphs.opens.Goals as goal

pub returns-in_err-another : goal.returns-in_err-another
returns-in_err-another c =
    let p = err_from_is_err_and c.from_residual.result c.from_residual.ensures.1 in
    let going : next_is Open c.each.rest.left.now ≡ true = cc in
    rw (p.1, p.2) (loop_fails _ _ _ _ _ _ c.each.invariant going c.in_err-another.ensures.value)

pub each-preserved : goal.each-preserved
each-preserved c =
    let going : next_is Open c.each.rest.left.now ≡ true = cc in
    rw c.in_ok-push.ensures.items (reads_more _ _ _ _ _ _ _ c.each.invariant going c.in_ok-another.ensures.value c.in_ok-another.ensures.shorter)

pub returns : goal.returns
returns c =
    let stops : next_is Open c.each.rest.left.now ≡ false = cc in
    rw c.fitted.ensures (reads_ends _ _ _ _ _ c.each.invariant stops)
