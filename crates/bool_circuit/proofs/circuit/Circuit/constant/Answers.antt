use Rattle.bool_circuit.proofs.Sizes.{size-constant}
use Rattle.bool_circuit.proofs.circuit.Circuit.constant.Goals as goal

pub returns-clause-size : goal.returns-clause-size
returns-clause-size c = size-constant c.add.result _ _ c.args.b c.add.ensures.made c.add.ensures.err
