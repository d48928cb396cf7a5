use Rattle.solver_tests.proofs.TwoSets.{sets_a_b}
use Rattle.solver_tests.proofs.pairs_of_sets.two_sets.Goals as goal

pub returns : goal.returns
returns c = sets_a_b c.args.all.now c.in_ok-first.first c.in_ok-second.second c.in_ok-relations.relations.items c.in_ok-relations.ensures.items c.in_ok-first.ensures c.in_ok-second.ensures
