use Rattle.std.proofs.Common.{◌≡◌, ◌/◌, ◌++◌, map, take, drop}
use Rattle.unit_propagation.proofs.activity_order.order.halve.Given as goal

abbrev pub invariant-loop-activity : goal.invariant-loop-activity
invariant-loop-activity l = l.activities ≡ map (λ a. a / 2) (take l.activity-index l.fn.activities) ++ drop l.activity-index l.fn.activities
