use Rattle.std.proofs.Common.{List, arith}
use Rattle.cnf_core.specs.declared.literal.Lit.{Lit}
use Rattle.session_state.proofs.Rounds.SameLists.{moved_none, moved_more, moved_all}
use Rattle.session_state.proofs.search_rounds.comparing.are_moved.Goals as goal

pub loop-i-init : goal.loop-i-init
loop-i-init c = moved_none c.args.clauses.now c.args.others.now c.args.place c.args.more

pub loop-i-preserved : goal.loop-i-preserved
loop-i-preserved c =
    let xs : List (List Lit) = c.args.clauses.now in
    let ys : List (List Lit) = c.args.others.now in
    moved_more xs ys c.args.place c.loop-i.i c.args.more c.index-clauses-i.result c.index-others-i.result c.loop-i-test.true (omega arith) c.index-clauses-i.is c.index-others-i.is (c.is_same_clause.ensures c.if-not-is_same_clause.false) c.loop-i.invariant

pub returns : goal.returns
returns c = λ t. moved_all c.args.clauses.now c.args.others.now c.args.place c.loop-i.i c.args.more c.requires.place c.loop-i-test.false (omega arith) c.loop-i.invariant
