use Rattle.std.proofs.Common.{◌≡◌, true, false, arith}
use Rattle.std.proofs.lemmas.Result.{err_from_is_err_and}
use Rattle.alloy_syntax.specs.declared.class.Class.TheVariants.{Comma}
use Rattle.alloy_syntax.specs.Readers.{next_is}
use Rattle.alloy_syntax.proofs.Loop.{loop_fails, reads_more, reads_ends}
use Rattle.alloy_parse.proofs.paragraphs.more_entries.Goals as goal

pub returns-in_err-another-clause-value : goal.returns-in_err-another-clause-value
returns-in_err-another-clause-value c =
    let p = err_from_is_err_and c.from_residual-in_err-another.result c.from_residual-in_err-another.ensures.1 in
    let going : next_is Comma c.each.rest.left.now ≡ true = cc in
    rw (p.1, p.2) (loop_fails _ _ _ _ _ _ c.each.invariant.reads going (rw c.after.ensures.value at c.in_err-another.ensures.value))

pub each-preserved : goal.each-preserved
each-preserved c =
    let going : next_is Comma c.each.rest.left.now ≡ true = cc in
    record {
      reads = rw c.in_ok-push-2.ensures.items (reads_more _ _ _ _ _ _ _ c.each.invariant.reads going (rw c.after.ensures.value at c.in_ok-another.ensures.value) (omega (arith, c.in_ok-another.ensures.shorter)));
      shorter = omega (arith, c.in_ok-another.ensures.shorter);
    }

pub returns-clause-value : goal.returns-clause-value
returns-clause-value c =
    let stops : next_is Comma c.each.rest.left.now ≡ false = cc in
    rw c.fitted.ensures (reads_ends _ _ _ _ _ c.each.invariant.reads stops)
