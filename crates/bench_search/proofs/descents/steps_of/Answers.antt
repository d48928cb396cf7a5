use Rattle.std.proofs.Common.{◌<◌, ◌∙◌, length, sym, subst, arith}
use Rattle.rel_formula.specs.Bounds.{cells_of}
use Rattle.rel_formula.specs.Instance.{AreCells}
use Rattle.augmenter.proofs.OfferSearches.{with_cell_in}
use Rattle.bench_search.proofs.descents.steps_of.Goals.{then-len-most+then-has_step+in_ok-insert, else-len-most}
use Rattle.bench_search.proofs.descents.steps_of.Goals as goal

pub loop-cell-preserved : goal.loop-cell-preserved
loop-cell-preserved c =
    let p = c.args.problem.now in
    let cell = c.loop-cell.cell in
    let scenario = c.loop-cell.scenario in
    elim c.if-len-most.branch [
      | then-len-most+then-has_step+in_ok-insert w ↦
          let in_range : cell < length (cells_of p) = let t = c.loop-cell-test.true in let n = c.cells.ensures.value in let m = c.saturating_sub-cell-end.ensures in omega arith in
          subst (AreCells p) (sym (w.scenario-is ∙ w.in_ok-insert.ensures.value)) (with_cell_in p scenario cell c.loop-cell.invariant in_range)
      | else-len-most w ↦ subst (AreCells p) (sym w.scenario-is) c.loop-cell.invariant
    ]
