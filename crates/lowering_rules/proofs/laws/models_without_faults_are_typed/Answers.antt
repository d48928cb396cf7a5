use Rattle.lowering_rules.proofs.Paragraphs.{has_types}
use Rattle.lowering_rules.proofs.References.{has_references}
use Rattle.lowering_rules.proofs.Ranks.{ranks}
use Rattle.lowering_rules.proofs.laws.models_without_faults_are_typed.Goals as goal

pub returns-clause-references : goal.returns-clause-references
returns-clause-references c = has_references

pub returns-clause-types : goal.returns-clause-types
returns-clause-types c = has_types

pub returns-clause-ranks : goal.returns-clause-ranks
returns-clause-ranks c = ranks
