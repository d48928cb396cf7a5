use Rattle.alloy_grammar.proofs.Faults.ModelsAmong.{stop_among}
use Rattle.alloy_grammar.proofs.fault_places.laws.a_fault_stands_among_the_tokens.Goals as goal

pub returns : goal.returns
returns c strict limit ts stop e = stop_among strict limit ts stop e
