use Rattle.rel_translate.proofs.Gated.{gate_not}
use Rattle.rel_translate.proofs.gates.neither.Goals as goal

pub returns-clause-says : goal.returns-clause-says
returns-clause-says c = gate_not c.args.circuit.now c.not.new.self c.args.a c.in_ok-node.node c.in_ok-node.ensures.value
