use Rattle.std.proofs.Common.{arith}
use Rattle.hub_state.proofs.Behind.{few, behind_more, behind_part, behind_all}
use Rattle.hub_state.proofs.new_steps.put_from.Goals as goal

pub loop-at-preserved : goal.loop-at-preserved
loop-at-preserved c =
    behind_more c.args.key c.args.entries.now c.args.have.now c.loop-at.have c.loop-at.at c.loop-at.before c.loop-at.invariant c.index-entries-at.result c.loop-at-test.true c.index-entries-at.is
    c.added_by-steps.result.now c.added_by-steps.ensures c.put_beyond.new.have c.in_ok-put_beyond.ensures.ok

pub returns-in_err-put_beyond-clause-grows : goal.returns-in_err-put_beyond-clause-grows
returns-in_err-put_beyond-clause-grows c =
    (behind_part c.args.key c.args.entries.now c.args.have.now c.loop-at.have c.loop-at.at c.loop-at.before c.loop-at.invariant c.index-entries-at.result c.loop-at-test.true c.index-entries-at.is
    c.added_by-steps.result.now c.added_by-steps.ensures c.in_err-put_beyond.ensures.part.0 c.put_beyond.new.have c.in_err-put_beyond.ensures.part.1).0

pub returns-in_err-put_beyond-clause-begins : goal.returns-in_err-put_beyond-clause-begins
returns-in_err-put_beyond-clause-begins c =
    (behind_part c.args.key c.args.entries.now c.args.have.now c.loop-at.have c.loop-at.at c.loop-at.before c.loop-at.invariant c.index-entries-at.result c.loop-at-test.true c.index-entries-at.is
    c.added_by-steps.result.now c.added_by-steps.ensures c.in_err-put_beyond.ensures.part.0 c.put_beyond.new.have c.in_err-put_beyond.ensures.part.1).1

pub returns-clause-whole : goal.returns-clause-whole
returns-clause-whole c = behind_all c.args.key c.args.entries.now c.args.have.now c.loop-at.have c.loop-at.at c.loop-at.before c.loop-at.invariant (omega (arith, c.loop-at-test.false))

pub put_beyond-requires-clause-few : goal.put_beyond-requires-clause-few
put_beyond-requires-clause-few c =
    let all = c.requires.few in
    let here =
    few c.args.key c.args.entries.now c.args.have.now c.loop-at.have c.loop-at.at c.loop-at.before c.loop-at.invariant c.index-entries-at.result c.loop-at-test.true c.index-entries-at.is c.added_by-steps.result.now c.added_by-steps.ensures in
    omega arith
