use Rattle.unit_propagation.specs.Assignments.Trail.{falses_of}
use Rattle.minimiser.proofs.Cells.{Chosen}
use Rattle.minimiser.proofs.LoweredTrails.{true_in}
use Rattle.minimiser.proofs.lowering.present_in.Given as goal

abbrev pub invariant-loop-cell : goal.invariant-loop-cell
invariant-loop-cell l = Chosen (true_in (falses_of l.trail.assigned)) l.cell l.scenario
