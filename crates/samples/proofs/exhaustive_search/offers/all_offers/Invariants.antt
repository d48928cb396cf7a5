use Rattle.samples.proofs.Exhaustive.Offered.{Offered}
use Rattle.samples.proofs.exhaustive_search.offers.all_offers.Given as goal

abbrev pub invariant-loop-cell : goal.invariant-loop-cell
invariant-loop-cell l = Offered l.problem l.scenario l.cell l.cells.items
