use Rattle.std.proofs.Common.{◌<◌, ◌-◌, subst}
use Rattle.reference_cycles.specs.Cycles.Walks.{rows_of, row_of}
use Rattle.reference_cycles.specs.Cycles.Marks.{AreAtMost}
use Rattle.reference_cycles.proofs.Cycles.EdgeHeights.{never_back}
use Rattle.reference_cycles.proofs.number_cycles.heights.falls.Goals as goal

pub returns-then-height-gt0 : goal.returns-then-height-gt0
returns-then-height-gt0 c = λ low.
    let rows = rows_of c.args.rows.now in
    let heights = c.args.heights.now in
    never_back rows heights c.args.number c.requires.heights (subst (λ h. 0 < h) c.height-height.ensures c.if-height-gt0.true)
    (subst (λ h. AreAtMost heights (h - 1) (row_of rows c.args.number)) c.height-height.ensures (subst (AreAtMost heights (c.height-height.result - 1)) c.row.ensures (c.at_most.ensures low)))
