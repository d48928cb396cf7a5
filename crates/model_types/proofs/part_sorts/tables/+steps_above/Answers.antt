use Rattle.std.proofs.Common.{refl, arith, ◌+◌, ◌/◌}
use Rattle.std.proofs.lemmas.Result.{IfOk-weaker}
use Rattle.model_types.proofs.Parts.Climbs.{even_above, odd_above}
use Rattle.model_types.proofs.part_sorts.tables.+steps_above.Goals as goal

pub returns-then-steps-eq0-2 : goal.returns-then-steps-eq0-2
returns-then-steps-eq0-2 t c =
    even_above c.args.signatures.now (c.args.steps / 2) c.args.steps c.in_ok-half.half.items c.deref.result.now c.deref-2.result.now c.in_ok-twice.twice.items (omega arith)
    c.deref.ensures.value c.deref-2.ensures.value c.in_ok-twice.ensures c.in_ok-half.ensures

pub returns : goal.returns
returns t c =
    let k = c.args.steps / 2 in
    IfOk-weaker c.followed-2.result _ _
    (λ table is. odd_above c.args.signatures.now (k + k) c.args.steps c.in_ok-twice.twice.items c.deref-3.result.now c.args.parents.now table.items (omega arith) c.deref-3.ensures.value is c.requires
    (even_above c.args.signatures.now k (k + k) c.in_ok-half.half.items c.deref.result.now c.deref-2.result.now c.in_ok-twice.twice.items refl
    c.deref.ensures.value c.deref-2.ensures.value c.in_ok-twice.ensures c.in_ok-half.ensures))
    c.followed-2.ensures
