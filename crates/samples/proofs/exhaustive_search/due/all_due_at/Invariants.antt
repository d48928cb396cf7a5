use Rattle.swap_symmetry.specs.Due.{IsDue}
use Rattle.samples.proofs.Exhaustive.SiftedLists.{Sifted}
use Rattle.samples.proofs.exhaustive_search.due.all_due_at.Given as goal

abbrev pub invariant-loop-scenario : goal.invariant-loop-scenario
invariant-loop-scenario l = Sifted l.scenario-items (IsDue l.fn.problem l.fn.floor) l.scenario-index l.due.items
