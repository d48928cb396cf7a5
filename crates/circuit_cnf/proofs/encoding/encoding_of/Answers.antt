use Rattle.std.proofs.Common.{ap, length}
use Rattle.circuit_cnf.proofs.GrowingEncodings.{nothing_so_far}
use Rattle.circuit_cnf.proofs.encoding.encoding_of.Goals as goal

pub loop-i-init : goal.loop-i-init
loop-i-init c = record {
  count = ap length c.in_ok-with_capacity.ensures.items;
  so_far = nothing_so_far c.args.circuit.now c.args.output c.in_ok-marks.marks.items c.inputs.result _ _ c.inputs.ensures c.in_ok-with_capacity.ensures.items c.new.ensures.items;
}
