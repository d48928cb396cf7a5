use Rattle.alloy_syntax.specs.Readers.{unsupported}
use Rattle.alloy_grammar.proofs.Prefixes.Models.{stands_there, form_is}
use Rattle.alloy_grammar.proofs.viable_prefixes.laws.a_refused_form_stands_there.Goals as goal

pub returns-clause-form : goal.returns-clause-form
returns-clause-form c strict limit f before rest e = form_is strict limit before (unsupported f rest) e

pub returns-clause-goes_on : goal.returns-clause-goes_on
returns-clause-goes_on c strict limit f before rest e stands = stands_there strict limit before (unsupported f rest) e stands
