use Rattle.std.proofs.Common.{arith}
use Rattle.std.proofs.lemmas.List.{get_or_default}
use Rattle.sat_trail.proofs.filling.best.Goals as goal
use Rattle.sat_trail.proofs.filling.best.Goals.{then-this-highest, else-this-highest}

pub loop-code-preserved : goal.loop-code-preserved
loop-code-preserved c =
    elim c.if-this-highest.branch [
      | then-this-highest w ↦ rw w.best-is ((c.loop-code.code-index, c.loop-code-test.true, get_or_default _ _ _ _ c.loop-code-test.true), c.rank-this.ensures (omega (arith, w.if-this-highest.true)))
      | else-this-highest w ↦ rw w.best-is c.loop-code.invariant
    ]
