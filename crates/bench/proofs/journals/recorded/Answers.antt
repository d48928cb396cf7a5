use Rattle.std.proofs.Common.{◌≡◌, ◌+◌, sym, subst, arith}
use Rattle.hub_state.specs.HubView.{HubView}
use Rattle.bench.proofs.Recording.{HasSessions, no_sessions, one_more}
use Rattle.bench.proofs.journals.recorded.Goals as goal

pub loop-session-init : goal.loop-session-init
loop-session-init c = subst (λ (h : HubView). HasSessions h 0) (sym c.in_ok-hub.ensures) no_sessions

pub loop-session-preserved : goal.loop-session-preserved
loop-session-preserved c =
    let by = c.loop-session.session in
    subst (λ (h : HubView). HasSessions h (by + 1)) (sym c.in_ok-record_session.ensures) (one_more c.loop-session.hub by c.loop-session.invariant)

pub returns : goal.returns
returns c = λ few. let entries = c.loop-session.invariant.entries in omega arith
