use Rattle.std.proofs.Common.{◌<◌, length, subst}
use Rattle.rel_formula.specs.Bounds.{Bounded, cells_of}
use Rattle.rel_formula.proofs.Lists.{some_below}
use Rattle.session_state.specs.Tuples.Named.{IsWhatIsNamed}
use Rattle.session_state.proofs.Sessions.TopFloors.{current_here}
use Rattle.session_state.proofs.session_search.augmenting.augment.Goals as goal

pub add_cell-requires-clause-cells : goal.add_cell-requires-clause-cells
add_cell-requires-clause-cells c =
    let p = c.args.translation.now.problem in
    let s = c.args.store.now.state in
    let is = current_here p s c.in-Some.current.now (c.a_run_is_sound.ensures p s c.requires.fits.reached) c.in-Some.ensures in
    is.scenario.cells

pub add_cell-requires-clause-cell : goal.add_cell-requires-clause-cell
add_cell-requires-clause-cell c =
    let told = subst (IsWhatIsNamed c.problem.result.now c.args.relation.now c.names.result.now) c.in-Cell.is c.what_is_named-named.ensures in
    subst (λ (p : Bounded). c.in-Cell.cell < length (cells_of p)) c.problem.ensures.value (some_below (cells_of c.problem.result.now) c.in-Cell.cell _ told.3)
