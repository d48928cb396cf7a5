use Rattle.std.proofs.Common.{refl}
use Rattle.unit_propagation.proofs.Activity.Steps.{all_wait}
use Rattle.unit_propagation.proofs.activity_order.heap.VarHeap.all.Goals as goal

pub returns-clause-waiting : goal.returns-clause-waiting
returns-clause-waiting c = all_wait (record { variables = c.in_ok-numbers.field-0; places = c.in_ok-numbers-2.field-0; waiting = c.args.vars }) c.args.vars refl c.in_ok-numbers-2.ensures.long c.in_ok-numbers-2.ensures.own
