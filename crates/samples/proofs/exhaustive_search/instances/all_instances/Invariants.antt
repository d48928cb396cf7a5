use Rattle.rel_formula.specs.Instance.{IsInstance}
use Rattle.samples.proofs.Exhaustive.SiftedLists.{Sifted}
use Rattle.samples.proofs.exhaustive_search.instances.all_instances.Given as goal

abbrev pub invariant-loop-scenario : goal.invariant-loop-scenario
invariant-loop-scenario l = Sifted l.scenario-items (IsInstance l.fn.problem) l.scenario-index l.instances.items
