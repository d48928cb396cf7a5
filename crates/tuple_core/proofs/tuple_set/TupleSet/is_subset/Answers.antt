use Rattle.std.proofs.Common.{◌≡◌, true, Contains, All, subst, refl, sym, arith}
use Rattle.tuple_core.proofs.Steps.{all_no, all_step, all_done}
use Rattle.tuple_core.proofs.tuple_set.TupleSet.is_subset.Goals as goal

pub loop-row-preserved : goal.loop-row-preserved
loop-row-preserved c =
    all_step (Contains c.args.other.now.rows) c.rows-row-items.result.now c.loop-row.row-index c.row-item.result c.loop-row-test.true c.row-item.is c.loop-row.invariant (c.contains.ensures.0 c.if-not-contains.false)

pub returns-then-not-contains : goal.returns-then-not-contains
returns-then-not-contains c = (
  λ e. absurd (cc),
  λ all. absurd (all_no (Contains c.args.other.now.rows) c.rows-row-items.result.now c.loop-row.row-index c.row-item.result c.loop-row-test.true c.row-item.is
      (λ there. let yes : c.contains.result ≡ true = c.contains.ensures.1 there in cc) (subst (All (Contains c.args.other.now.rows)) (sym c.rows-row-items.ensures.value) all)),
)

pub returns : goal.returns
returns c =
    (λ e. subst (All (Contains c.args.other.now.rows)) c.rows-row-items.ensures.value (all_done (Contains c.args.other.now.rows) c.rows-row-items.result.now c.loop-row.row-index (omega arith) c.loop-row.invariant), λ all. refl)
