use Rattle.std.proofs.Common.{◌≡◌, ◌≤◌, length, take}
use Rattle.hub_state.specs.Held.{steps_in}
use Rattle.hub_state.proofs.new_steps.place_of.Given as goal

abbrev pub invariant-looking : goal.invariant-looking
invariant-looking l = record {
  within : l.place ≤ length l.entries;
  before : l.before ≡ length (steps_in l.key (take l.place l.entries));
}

abbrev pub decreases-looking : goal.decreases-looking
decreases-looking l = l.place
