use Rattle.hub_turns.proofs.Onward.{went_then}
use Rattle.hub_tests.proofs.of_whole_sessions.serve_four.Goals as goal

pub open_session-requires-clause-published : goal.open_session-requires-clause-published
open_session-requires-clause-published g c = (c.args.t.now, c.requires.published)

pub serve_session-requires-clause-seated : goal.serve_session-requires-clause-seated
serve_session-requires-clause-seated g c = c.in_ok-session.ensures.seated c.args.t.now c.requires.published

pub returns : goal.returns
returns g c = record { goes = went_then c.args.lock.now c.args.pass.now c.open_session.new.pass c.serve_session.new.pass c.in_ok-session.ensures.goes c.serve_session.ensures.goes }
