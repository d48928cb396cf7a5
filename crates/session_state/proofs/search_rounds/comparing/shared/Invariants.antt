use Rattle.std.proofs.Common.{◌≡◌, take}
use Rattle.session_state.proofs.search_rounds.comparing.shared.Given as goal

abbrev pub invariant-loop-i : goal.invariant-loop-i
invariant-loop-i l = take l.i l.clauses ≡ take l.i l.others
