use Rattle.cnf_core.specs.Valuation.{value_of}
use Rattle.minimiser.proofs.Cells.{Chosen}
use Rattle.session_state.proofs.search_rounds.round.scenario_in.Given as goal

abbrev pub invariant-loop-cell : goal.invariant-loop-cell
invariant-loop-cell l = Chosen (value_of l.valuation) l.cell l.scenario
