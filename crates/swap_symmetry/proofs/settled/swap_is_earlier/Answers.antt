use Rattle.std.proofs.Common.{◌≡◌, Contains, arith, true, false}
use Rattle.rel_formula.specs.Bounds.{cells_of, cell_of}
use Rattle.rel_formula.proofs.Lists.{some_below}
use Rattle.swap_symmetry.specs.Swaps.{IsTakenInto}
use Rattle.swap_symmetry.proofs.FirstDifferences.{here_or_not, one_more, nowhere}
use Rattle.swap_symmetry.proofs.settled.swap_is_earlier.Goals as goal

pub returns-then-here-has : goal.returns-then-here-has
returns-then-here-has c =
    here_or_not (IsTakenInto c.args.problem.now c.args.first c.args.second (Contains c.args.scenario.now)) (Contains c.args.scenario.now) c.loop-number.number c.is_taken_into-here.result c.has.result c.is_taken_into-here.ensures c.has.ensures c.if-here-has.true c.loop-number.invariant

pub loop-number-preserved : goal.loop-number-preserved
loop-number-preserved c =
    one_more (IsTakenInto c.args.problem.now c.args.first c.args.second (Contains c.args.scenario.now)) (Contains c.args.scenario.now) c.loop-number.number c.is_taken_into-here.result c.has.result c.is_taken_into-here.ensures c.has.ensures c.if-here-has.false c.loop-number.invariant

pub returns : goal.returns
returns c = (
  λ e. absurd (let h : false ≡ true = e in cc),
  λ d. absurd (nowhere (IsTakenInto c.args.problem.now c.args.first c.args.second (Contains c.args.scenario.now)) (Contains c.args.scenario.now) c.loop-number.number c.loop-number.invariant
      (λ m taken. let l = some_below (cells_of c.args.problem.now) m (cell_of taken.0 taken.1) taken.2 in let v = c.cells-number-end.ensures.value in omega arith) d),
)
