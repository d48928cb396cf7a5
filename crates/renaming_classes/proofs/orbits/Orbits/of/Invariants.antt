use Rattle.renaming_classes.proofs.Decided.{Leads}
use Rattle.renaming_classes.proofs.orbits.Orbits.of.Given as goal

abbrev pub invariant-loop-cell : goal.invariant-loop-cell
invariant-loop-cell l = Leads l.problem l.kept l.others l.leaders.items l.cell-index
