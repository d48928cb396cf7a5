use Rattle.std.proofs.Common.{◌≢◌, ℕ, List, All, take}
use Rattle.session_state.proofs.search_rounds.due.is_among.Given as goal

abbrev pub invariant-loop-other : goal.invariant-loop-other
invariant-loop-other l = All (λ (s : List ℕ). s ≢ l.scenario) (take l.other-index l.scenarios)
