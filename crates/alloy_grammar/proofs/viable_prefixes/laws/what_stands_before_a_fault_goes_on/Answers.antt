use Rattle.alloy_grammar.proofs.Prefixes.Models.{goes_on}
use Rattle.alloy_grammar.proofs.viable_prefixes.laws.what_stands_before_a_fault_goes_on.Goals as goal

pub returns : goal.returns
returns c strict limit before stop e = goes_on strict limit before stop e
