use Rattle.std.proofs.Common.{◌≡◌, refl, arith}
use Rattle.std.proofs.lemmas.Result.{err_from_is_err_and}
use Rattle.refutation_check.specs.Progress.{progress_of}
use Rattle.refutation_check.proofs.TextLines.{one_more, fault_there}
use Rattle.refutation_check.proofs.proof_text.reading.read_lines.Goals as goal

pub returns-in_err-add-clause-fault : goal.returns-in_err-add-clause-fault
returns-in_err-add-clause-fault c =
    let p = err_from_is_err_and c.from_residual.result c.from_residual.ensures.1 in
    rw (p.1, p.2) (fault_there c.args.bytes.now c.each.rest.now c.in-Some.line.now c.in-Some.behind.now c.each.number (progress_of c.each.reading) c.each.invariant c.in-Some.ensures.line
    c.in_err-add.field-0.0 c.requires c.in_err-add.ensures.fault)

pub each-preserved : goal.each-preserved
each-preserved c =
    one_more c.args.bytes.now c.each.rest.now c.in-Some.line.now c.in-Some.behind.now c.each.number (progress_of c.each.reading) c.each.invariant c.in-Some.ensures.line
    (progress_of c.add.new.self) c.in-Some.ensures.shorter c.in_ok-add.ensures.line
