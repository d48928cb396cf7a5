use Rattle.std.proofs.Common.{◌≡◌, take}
use Rattle.session_state.proofs.search_rounds.comparing.is_same_log.Given as goal

abbrev pub invariant-loop-i : goal.invariant-loop-i
invariant-loop-i l = take l.i l.steps ≡ take l.i l.others
