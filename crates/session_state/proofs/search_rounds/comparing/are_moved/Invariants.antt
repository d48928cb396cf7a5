use Rattle.session_state.proofs.Rounds.SameLists.{AreMovedTo}
use Rattle.session_state.proofs.search_rounds.comparing.are_moved.Given as goal

abbrev pub invariant-loop-i : goal.invariant-loop-i
invariant-loop-i l = AreMovedTo l.clauses l.others l.place l.i l.more
