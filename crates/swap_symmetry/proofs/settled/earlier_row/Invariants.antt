use Rattle.std.proofs.Common.{All, take}
use Rattle.swap_symmetry.proofs.SwapRows.{DoesNothing}
use Rattle.swap_symmetry.proofs.settled.earlier_row.Given as goal

abbrev pub invariant-loop-row : goal.invariant-loop-row
invariant-loop-row l = All (DoesNothing l.problem l.floor l.scenario) (take l.row-index l.rows)
