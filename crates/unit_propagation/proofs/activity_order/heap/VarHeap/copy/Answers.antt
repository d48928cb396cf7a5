use Rattle.std.proofs.Common.{◌∙◌, [], refl}
use Rattle.unit_propagation.specs.declared.activity_order.heap.VarHeap.{VarHeap}
use Rattle.unit_propagation.proofs.Activity.Steps.{heap_copied, waiting_copied}
use Rattle.unit_propagation.proofs.activity_order.heap.VarHeap.copy.Goals as goal

pub returns-clause-heap : goal.returns-clause-heap
returns-clause-heap c = λ activities was.
    heap_copied activities c.args.self.now (record { variables = c.in_ok-variables.variables; places = c.in_ok-places.places; waiting = c.args.self.now.waiting })
    (c.in_ok-variables.ensures.items ∙ c.as_slice.ensures.value) (c.in_ok-places.ensures.items ∙ c.as_slice-2.ensures.value) refl was

pub returns-clause-waiting : goal.returns-clause-waiting
returns-clause-waiting c =
    waiting_copied [] c.args.self.now (record { variables = c.in_ok-variables.variables; places = c.in_ok-places.places; waiting = c.args.self.now.waiting })
    (c.in_ok-variables.ensures.items ∙ c.as_slice.ensures.value) (c.in_ok-places.ensures.items ∙ c.as_slice-2.ensures.value) refl
