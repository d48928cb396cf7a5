use Rattle.translation_rules.proofs.FreeLemmas.{tested, settled_by_test}
use Rattle.translation_rules.proofs.laws.free_swaps_are_tested.Goals as goal

pub returns-clause-test : goal.returns-clause-test
returns-clause-test c = tested

pub returns-clause-settled : goal.returns-clause-settled
returns-clause-settled c = settled_by_test
