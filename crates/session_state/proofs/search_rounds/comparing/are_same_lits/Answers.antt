use Rattle.std.proofs.Common.{◌<◌, List, false, length, arith}
use Rattle.std.proofs.lemmas.List.{take_more_same}
use Rattle.cnf_core.specs.declared.literal.Lit.{Lit}
use Rattle.session_state.proofs.Rounds.SameLists.{same_all}
use Rattle.session_state.proofs.search_rounds.comparing.are_same_lits.Goals as goal

pub loop-i-preserved : goal.loop-i-preserved
loop-i-preserved c =
    let xs : List Lit = c.args.lits.now in
    let ys : List Lit = c.args.others.now in
    let d : Lit = record { var = 0; positive = false } in
    let l : c.loop-i.i < length ys = omega arith in
    take_more_same xs ys c.loop-i.i d c.loop-i-test.true l c.loop-i.invariant (c.is_same_lit.ensures c.if-not-is_same_lit.false)

pub returns : goal.returns
returns c = λ t. same_all c.args.lits.now c.args.others.now c.loop-i.i c.loop-i-test.false (omega arith) c.loop-i.invariant
