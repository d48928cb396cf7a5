use Rattle.rel_translate.proofs.Gated.{gate_and}
use Rattle.rel_translate.proofs.gates.both.Goals as goal

pub returns-clause-says : goal.returns-clause-says
returns-clause-says c = gate_and c.args.circuit.now c.and.new.self c.args.a c.args.b c.in_ok-node.node c.in_ok-node.ensures.value
