use Rattle.std.proofs.Common.{false, refl, length-set}
use Rattle.refutation_check.proofs.Keeping.{Unmarked-first, Unmarked-next}
use Rattle.refutation_check.proofs.assumptions.unmark.Goals as goal

pub loop-lit-init : goal.loop-lit-init
loop-lit-init c = record { marked = Unmarked-first _ _ c.requires.marked; long = refl }

pub loop-lit-preserved : goal.loop-lit-preserved
loop-lit-preserved c =
    let was = c.loop-lit.invariant in
    record {
      marked = Unmarked-next _ _ _ (record { var = 0; positive = false }) c.loop-lit-test.true was.marked;
      long = simp length-set was.long;
    }
