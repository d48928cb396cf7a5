use Rattle.rel_translate.proofs.Gated.{gate_or}
use Rattle.rel_translate.proofs.gates.either.Goals as goal

pub returns-clause-says : goal.returns-clause-says
returns-clause-says c = gate_or c.args.circuit.now c.or.new.self c.args.a c.args.b c.in_ok-node.node c.in_ok-node.ensures.value
