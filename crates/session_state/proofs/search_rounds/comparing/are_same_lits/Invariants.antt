use Rattle.std.proofs.Common.{◌≡◌, take}
use Rattle.session_state.proofs.search_rounds.comparing.are_same_lits.Given as goal

abbrev pub invariant-loop-i : goal.invariant-loop-i
invariant-loop-i l = take l.i l.lits ≡ take l.i l.others
