-- Which variables wait to be decided.
use Rattle.std.specs.Prelude.{◌≡◌, ◌+◌, ◌-◌, ◌<◌, ◌≤◌, ℕ, List, length, slice_index_or}
use Rattle.cnf_core.specs.declared.literal.Lit.{Lit}
use Rattle.unit_propagation.specs.Activity.OrderState.{OrderState, Waits}
use Rattle.unit_propagation.specs.declared.assignment_trail.assigned.Assigned.{Assigned}
use Rattle.sat_trail.specs.Deciding.{IsOpenVar}

-- the order has a place for each variable, from 0 on, and each variable that is open waits there
pub record IsOrderOf (vars : ℕ) (falses : List Lit) (order : OrderState) : Type 0 where
  pub long : length order.activities ≡ vars
  pub as_many : length order.waiting ≡ vars
  pub waits : (i : ℕ) → IsOpenVar vars falses (i + 1) → Waits order.waiting i

-- the variables of the literals from this place on wait, and those that waited before
pub record IsPutBack (vars : ℕ) (assigned : List Assigned) (old new : OrderState) (n : ℕ) : Type 0 where
  pub in_range : n ≤ length assigned
  pub long : length new.activities ≡ vars
  pub as_many : length new.waiting ≡ vars
  pub stays : (i : ℕ) → Waits old.waiting i → Waits new.waiting i
  pub back : (j : ℕ) (d : Assigned) → n ≤ j → j < length assigned → Waits new.waiting ((slice_index_or assigned j d).lit.var - 1)
