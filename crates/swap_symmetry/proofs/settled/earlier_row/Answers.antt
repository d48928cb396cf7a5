use Rattle.std.proofs.Common.{Contains, sym}
use Rattle.tuple_core.proofs.Steps.{all_step, all_done}
use Rattle.swap_symmetry.proofs.SwapRows.{DoesNothing, row_next, settled_by_rows}
use Rattle.swap_symmetry.proofs.settled.earlier_row.Goals as goal

pub returns-then-free_swap_is_earlier-clause-some : goal.returns-then-free_swap_is_earlier-clause-some
returns-then-free_swap_is_earlier-clause-some c =
    let rows = c.args.rows.now in
    let row = c.row-item.result in
    let there : Contains rows row = (c.loop-row.row-index, c.loop-row-test.true, sym c.row-item.is) in
    let does = c.free_swap_is_earlier.ensures.0 c.if-free_swap_is_earlier.true in
    (row_next c.args.problem.now rows c.requires.exactly row there, does.0, does.1)

pub loop-row-preserved : goal.loop-row-preserved
loop-row-preserved c =
    all_step (DoesNothing c.args.problem.now c.args.floor.now c.args.scenario.now) c.args.rows.now c.loop-row.row-index c.row-item.result c.loop-row-test.true c.row-item.is c.loop-row.invariant
    (λ does. absurd (let yes = c.free_swap_is_earlier.ensures.1 does in let no = c.if-free_swap_is_earlier.false in cc))

pub returns-clause-none : goal.returns-clause-none
returns-clause-none c =
    let Nothing = DoesNothing c.args.problem.now c.args.floor.now c.args.scenario.now in
    let none = all_done Nothing c.args.rows.now c.loop-row.row-index c.loop-row-test.false c.loop-row.invariant in
    λ e. settled_by_rows c.args.problem.now c.args.rows.now c.requires.exactly c.args.floor.now c.args.scenario.now none
