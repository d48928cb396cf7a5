use Rattle.rel_formula.specs.Instance.{Includes}
use Rattle.samples.proofs.Exhaustive.SiftedLists.{Sifted}
use Rattle.samples.proofs.exhaustive_search.instances.instances_above.Given as goal

abbrev pub invariant-loop-scenario : goal.invariant-loop-scenario
invariant-loop-scenario l = Sifted l.scenario-items (λ s. Includes s l.fn.floor) l.scenario-index l.above.items
