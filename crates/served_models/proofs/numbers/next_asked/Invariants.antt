use Rattle.std.proofs.Common.{take}
use Rattle.served_models.specs.Served.{IsNext}
use Rattle.served_models.proofs.numbers.next_asked.Given as goal

abbrev pub invariant-loop-session : goal.invariant-loop-session
invariant-loop-session l = IsNext (take l.session-index l.sessions) l.place l.from l.least
