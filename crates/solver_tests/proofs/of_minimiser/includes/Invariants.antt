use Rattle.std.proofs.Common.{All, take, Contains}
use Rattle.solver_tests.proofs.of_minimiser.includes.Given as goal

abbrev pub invariant-loop-cell : goal.invariant-loop-cell
invariant-loop-cell l = All (Contains l.scenario) (take l.cell-index l.cell-items)
