use Rattle.std.proofs.Common.{refl}
use Rattle.alloy_syntax.specs.Readers.{refused, unsupported}
use Rattle.alloy_syntax.specs.Paragraphs.{model_at}
use Rattle.alloy_grammar.proofs.Faults.Models.{stays_read, stays, roomier}
use Rattle.alloy_grammar.proofs.fault_places.laws.a_greater_limit_moves_no_other_fault.Goals as goal

pub returns-clause-read : goal.returns-clause-read
returns-clause-read c strict limit more less ts m e = stays_read (model_at strict limit ts) (model_at strict more ts) m (roomier strict limit more less ts) e

pub returns-clause-refused : goal.returns-clause-refused
returns-clause-refused c strict limit more less ts rest e = stays (model_at strict limit ts) (model_at strict more ts) (refused rest) refl (roomier strict limit more less ts) e

pub returns-clause-unsupported : goal.returns-clause-unsupported
returns-clause-unsupported c strict limit more less f ts rest e = stays (model_at strict limit ts) (model_at strict more ts) (unsupported f rest) refl (roomier strict limit more less ts) e
