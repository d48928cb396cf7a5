use Rattle.bench.proofs.Recording.{HasSessions}
use Rattle.bench.proofs.journals.recorded.Given as goal

abbrev pub invariant-loop-session : goal.invariant-loop-session
invariant-loop-session l = HasSessions l.hub l.session
