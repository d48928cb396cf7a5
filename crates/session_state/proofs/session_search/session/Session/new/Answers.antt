use Rattle.std.proofs.Common.{ap}
use Rattle.session_state.specs.Store.Stored.{Stored}
use Rattle.session_state.proofs.Sessions.LaterSessions.{fits_first}
use Rattle.session_state.proofs.session_search.session.Session.new.Goals as goal

pub returns-clause-fits : goal.returns-clause-fits
returns-clause-fits c = λ p. fits_first p c.args.budget c.in_ok-kept.kept (ap (λ (k : Stored). k.state) c.in_ok-kept.ensures) (ap (λ (k : Stored). k.copies) c.in_ok-kept.ensures)
