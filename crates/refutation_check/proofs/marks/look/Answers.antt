use Rattle.std.proofs.Common.{sym}
use Rattle.refutation_check.proofs.Sights.{second_open, first_open, next_false}
use Rattle.refutation_check.proofs.marks.look.Goals as goal
use Rattle.refutation_check.proofs.marks.look.Goals.{in-Some+else-value-lit, in-None-2}

pub returns-in-None : goal.returns-in-None
returns-in-None c = second_open _ _ _ _ _ c.loop-lit-test.true c.requires.clause.rising c.loop-lit.invariant (sym c.if-is_some.ensures) c.in-None.is

pub loop-lit-preserved : goal.loop-lit-preserved
loop-lit-preserved c =
    elim c.match-marks-lit.branch [
      | in-Some+else-value-lit w ↦ rw w.open-is (next_false _ _ _ _ _ w.in-Some.value c.loop-lit-test.true c.loop-lit.invariant w.in-Some.is w.if-value-lit.false)
      | in-None-2 w ↦ rw w.open-is (first_open _ _ _ _ _ c.loop-lit-test.true c.loop-lit.invariant (sym w.if-is_some.ensures) w.in-None.is)
    ]
