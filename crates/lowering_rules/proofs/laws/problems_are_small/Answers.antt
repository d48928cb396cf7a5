use Rattle.lowering_rules.proofs.Atoms.{few_atoms, disjoint_tops}
use Rattle.lowering_rules.proofs.laws.problems_are_small.Goals as goal

pub returns-clause-atoms : goal.returns-clause-atoms
returns-clause-atoms c = few_atoms

pub returns-clause-tops : goal.returns-clause-tops
returns-clause-tops c = disjoint_tops
