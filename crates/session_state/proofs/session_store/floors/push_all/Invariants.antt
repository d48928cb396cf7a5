use Rattle.std.proofs.Common.{◌≡◌, ◌≤◌, ◌+◌, ◌-◌, ◌++◌, map, take, length, reverse}
use Rattle.std.specs.Prelude.{vec_len, vec_capacity}
use Rattle.session_state.specs.declared.session_store.floors.Found.{Found}
use Rattle.session_state.proofs.session_store.floors.push_all.Given as goal

abbrev pub invariant-pushing : goal.invariant-pushing
invariant-pushing l = record {
  found : l.found.items ++ map (λ s. record { floor = l.floor; scenario = s }) (reverse l.left.items) ≡ l.initial.found.items ++ map (λ s. record { floor = l.floor; scenario = s }) (reverse l.initial.left.items);
  few : vec_len l.found + vec_len l.left ≤ 1000000;
  room : vec_len l.found + vec_len l.left ≤ vec_capacity l.found;
}

abbrev pub decreases-pushing : goal.decreases-pushing
decreases-pushing l = length l.left.items
