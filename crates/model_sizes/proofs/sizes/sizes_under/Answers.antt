use Rattle.std.proofs.Common.{Ok, Err, inr}
use Rattle.std.proofs.lemmas.Result.{err_from_is_err_and}
use Rattle.model_sizes.proofs.Tops.{fault_under, value_under}
use Rattle.model_sizes.proofs.sizes.sizes_under.Goals as goal

pub returns-in_err-sizes : goal.returns-in_err-sizes
returns-in_err-sizes c =
    let p = err_from_is_err_and c.from_residual-in_err-sizes.result c.from_residual-in_err-sizes.ensures.1 in
    rw (p.1, p.2) (fault_under c.args.signatures.now c.args.default c.args.listings.now c.in_ok-table.table.items c.deref.result.now c.deref-2.result.now c.in_ok-sums.sums.items c.deref-3.result.now c.in_ok-check_default.ensures c.in_ok-table.ensures c.deref.ensures.value c.in_ok-sums.ensures c.deref-2.ensures.value c.deref-3.ensures.value c.in_err-sizes.field-0.0 c.in_err-sizes.ensures)

pub returns-in_err-few : goal.returns-in_err-few
returns-in_err-few c =
    let p = err_from_is_err_and c.from_residual-in_err-few.result c.from_residual-in_err-few.ensures.1 in
    rw (p.1, p.2) (inr (value_under c.args.signatures.now c.args.default c.args.listings.now c.in_ok-table.table.items c.deref.result.now c.deref-2.result.now c.in_ok-sums.sums.items c.deref-3.result.now c.in_ok-check_default.ensures c.in_ok-table.ensures c.deref.ensures.value c.in_ok-sums.ensures c.deref-2.ensures.value c.deref-3.ensures.value c.in_ok-sizes.sizes.items (Err c.in_err-few.field-0.0) c.in_ok-sizes.ensures c.in_err-few.ensures))

pub returns : goal.returns
returns c = value_under c.args.signatures.now c.args.default c.args.listings.now c.in_ok-table.table.items c.deref.result.now c.deref-2.result.now c.in_ok-sums.sums.items c.deref-3.result.now c.in_ok-check_default.ensures c.in_ok-table.ensures c.deref.ensures.value c.in_ok-sums.ensures c.deref-2.ensures.value c.deref-3.ensures.value c.in_ok-sizes.sizes.items (Ok c.in_ok-few.field-0) c.in_ok-sizes.ensures c.in_ok-few.ensures
