use Rattle.std.proofs.Common.{◌∷◌, [], ℕ, Bool, Option, List, IfSome, sym, subst, arith}
use Rattle.refutation_check.specs.Chain.{members_of}
use Rattle.rel_formula.specs.Instance.{AreCells}
use Rattle.augmenter.specs.Raising.{HasCells}
use Rattle.augmenter.proofs.FirstTries.{serves_cells, serves_on}
use Rattle.augmenter.proofs.OfferSearches.{with_cell_in}
use Rattle.augmenter.proofs.tried.seek_on.Goals as goal

pub assumes-requires : goal.assumes-requires
assumes-requires c =
    let l = c.requires.cell in
    let e = c.problem.ensures.well.cells in
    let g = c.requires.trail.enough in
    omega arith

pub found_with-requires-clause-in_range : goal.found_with-requires-clause-in_range
found_with-requires-clause-in_range c =
    let l = c.requires.cell in
    let e = c.problem.ensures.well.cells in
    let g = c.requires.trail.enough in
    let v = c.assumes.ensures.vars in
    omega arith

pub found_with-requires-clause-marks : goal.found_with-requires-clause-marks
found_with-requires-clause-marks c =
    let m = c.requires.marks in
    let e = c.problem.ensures.well.cells in
    let g = c.requires.trail.enough in
    let v = c.assumes.ensures.vars in
    omega arith

pub found_with-requires-clause-closed : goal.found_with-requires-clause-closed
found_with-requires-clause-closed c = c.assumes.ensures.closed c.if-assumes.true

pub given-requires-clause-cells : goal.given-requires-clause-cells
given-requires-clause-cells c = subst (AreCells c.args.translation.now.problem) (sym c.in_ok-wanted.ensures) (with_cell_in c.args.translation.now.problem c.args.scenario.now c.args.cell c.requires.scenario c.requires.cell)

pub given-requires-clause-found : goal.given-requires-clause-found
given-requires-clause-found c =
    let t = c.args.translation.now in
    let pool = c.args.pool.now in
    let scenario = c.args.scenario.now in
    let cell = c.args.cell in
    let on = c.assumes.new.trail in
    let serves = serves_on t pool scenario c.args.trail.now on c.assumes.ensures.clauses c.assumes.ensures.vars c.requires.trail in
    let has = subst (λ (found : Option (List Bool)). IfSome found (HasCells on.vars on.clauses (cell ∷ []))) c.in-Some.is c.in_ok-valuation.ensures.found in
    subst (λ (cells : List ℕ). HasCells t.cnf.vars (members_of t.cnf.clauses pool) cells c.in-Some.valuation) (sym c.in_ok-wanted.ensures) (serves_cells t pool scenario on cell c.in-Some.valuation serves has)

pub refused-requires-clause-cells : goal.refused-requires-clause-cells
refused-requires-clause-cells c = subst (AreCells c.args.translation.now.problem) (sym c.in_ok-wanted.ensures) (with_cell_in c.args.translation.now.problem c.args.scenario.now c.args.cell c.requires.scenario c.requires.cell)

pub seek_from-requires-clause-cells : goal.seek_from-requires-clause-cells
seek_from-requires-clause-cells c = subst (AreCells c.args.translation.now.problem) (sym c.in_ok-wanted.ensures) (with_cell_in c.args.translation.now.problem c.args.scenario.now c.args.cell c.requires.scenario c.requires.cell)
