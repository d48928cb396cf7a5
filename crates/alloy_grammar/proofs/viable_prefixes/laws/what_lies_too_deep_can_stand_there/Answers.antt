use Rattle.std.proofs.Common.{refl}
use Rattle.alloy_syntax.specs.Readers.{too_deep}
use Rattle.alloy_grammar.proofs.Refusals.Models.{goes_nowhere}
use Rattle.alloy_grammar.proofs.Prefixes.Models.{stands_there}
use Rattle.alloy_grammar.proofs.viable_prefixes.laws.what_lies_too_deep_can_stand_there.Goals as goal

pub returns-clause-goes_on : goal.returns-clause-goes_on
returns-clause-goes_on c strict limit before rest e = stands_there strict limit before (too_deep rest) e refl

pub returns-clause-not_refused : goal.returns-clause-not_refused
returns-clause-not_refused c strict lenient limit more before rest e f = goes_nowhere lenient more before rest f (stands_there strict limit before (too_deep rest) e refl)
