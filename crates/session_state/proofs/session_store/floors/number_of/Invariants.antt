use Rattle.std.proofs.Common.{◌≢◌, All, List, ℕ, take}
use Rattle.session_state.proofs.session_store.floors.number_of.Given as goal

abbrev pub invariant-loop-number : goal.invariant-loop-number
invariant-loop-number l = All (λ (f : List ℕ). f ≢ l.floor) (take l.number l.floors)
