use Rattle.std.proofs.Common.{sym, ap, ◌∙◌, get_or, None}
use Rattle.named_model.specs.declared.named.Signature.{Signature}
use Rattle.named_model.specs.Signatures.{no_signature}
use Rattle.model_sizes.specs.Tables.{with_extension}
use Rattle.model_sizes.proofs.Numbers.{item_is}
use Rattle.model_sizes.proofs.Sums.{sums_more}
use Rattle.model_sizes.proofs.tables.sums_of_extensions.Goals as goal

pub loop-number-preserved : goal.loop-number-preserved
loop-number-preserved c =
    let l = c.loop-number-test.true in
    let is = item_is c.args.signatures.now c.loop-number.number no_signature c.index-signatures-number.result l c.index-signatures-number.is in
    let e = c.add_to_parent.ensures ∙ ap (λ (x : Signature). with_extension c.loop-number.sums.items x (get_or c.args.table.now c.loop-number.number None)) (sym is) in
    rw e (sums_more c.args.signatures.now c.args.table.now c.loop-number.number c.loop-number.sums.items l c.loop-number.invariant)
