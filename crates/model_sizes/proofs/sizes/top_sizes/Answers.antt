use Rattle.std.proofs.Common.{sym, inr}
use Rattle.std.proofs.lemmas.Result.{err_from_is_err_and}
use Rattle.named_model.specs.Signatures.{no_signature}
use Rattle.model_sizes.proofs.Numbers.{item_is}
use Rattle.model_sizes.proofs.Tops.{tops_skip, tops_more, tops_fail}
use Rattle.model_sizes.proofs.sizes.top_sizes.Goals as goal

pub loop-number-preserved-then-is_some : goal.loop-number-preserved-then-is_some
loop-number-preserved-then-is_some c =
    let l = c.loop-number-test.true in
    let is = item_is c.args.signatures.now c.loop-number.number no_signature c.index-signatures-number.result l c.index-signatures-number.is in
    tops_skip c.args.signatures.now c.args.table.now c.args.sums.now c.args.default c.loop-number.number c.index-signatures-number.result c.loop-number.sizes.items l is (sym c.if-is_some.ensures) c.loop-number.invariant

pub returns-in_err-size_of : goal.returns-in_err-size_of
returns-in_err-size_of c =
    let p = err_from_is_err_and c.from_residual.result c.from_residual.ensures.1 in
    let l = c.loop-number-test.true in
    let is = item_is c.args.signatures.now c.loop-number.number no_signature c.index-signatures-number.result l c.index-signatures-number.is in
    rw (p.1, p.2) (inr (tops_fail c.args.signatures.now c.args.table.now c.args.sums.now c.args.default c.loop-number.number c.index-signatures-number.result c.loop-number.sizes.items c.in_err-size_of.field-0.0 l is (sym c.if-is_some.ensures) (sym c.in_err-size_of.ensures) c.loop-number.invariant))

pub loop-number-preserved : goal.loop-number-preserved
loop-number-preserved c =
    let l = c.loop-number-test.true in
    let is = item_is c.args.signatures.now c.loop-number.number no_signature c.index-signatures-number.result l c.index-signatures-number.is in
    rw c.in_ok-push.ensures.items (tops_more c.args.signatures.now c.args.table.now c.args.sums.now c.args.default c.loop-number.number c.index-signatures-number.result c.loop-number.sizes.items c.in_ok-size_of.field-0 l is (sym c.if-is_some.ensures) (sym c.in_ok-size_of.ensures) c.loop-number.invariant)
