use Rattle.std.proofs.Common.{◌∙◌, length, ap}
use Rattle.std.proofs.lemmas.List.{length-replicate}
use Rattle.sat_trail.proofs.Waiting.{order_first}
use Rattle.sat_trail.proofs.Watches.{ready_none}
use Rattle.sat_trail.proofs.trail.Trail.none.Goals as goal

pub invariant_of-result : goal.invariant_of-result
invariant_of-result c = record {
  ready = rw (c.in_ok-watches.ensures, c.in_ok-assignment.ensures, c.new-3.ensures, c.new-4.ensures) (ready_none c.args.vars);
  ordered = rw (c.in_ok-assignment.ensures, c.in_ok-order.ensures) (order_first c.args.vars);
  met = rw c.in_ok-assignment.ensures (ap length (c.in_ok-met_by.ensures.items_if_clones_equal (λ y e. e)) ∙ length-replicate c.args.vars 0);
}
